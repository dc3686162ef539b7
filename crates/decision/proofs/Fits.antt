-- An order of the cone's events that fits the rules: a list in such an order is a correct reordering.
use Prim.Native.Nat.{ℕ, zero, suc}
use native.Mathlib.Omega.{arith}
use mathlib.Core.Path.{◌≡◌, refl, sym, ◌∙◌}
use mathlib.Core.Logic.{◌≢◌, ◌⊎◌, inl, inr, ⊎_elim}
use mathlib.Core.Bool.{true}
use mathlib.Core.List.Memᴰ
use mathlib.Core.List.{List, [], ◌∷◌}
use lib.Dec.{eqb}
use borrow.Author.Tests.{eqb-true, eqb-false}
use Rattle.model.specs.Trace.{Trace, Valid, read, write, kind_of, object_of, does}
use Rattle.model.specs.Lists.{◌∈◌, Ordered, up_to, own}
use Rattle.model.specs.Observed.{last_write, observed, LastBefore}
use Rattle.model.specs.Good.{holder, WellFormed}
use Rattle.model.specs.Awaits.{Awaits}
use Rattle.model.specs.Reordering.{Enabled, Sees, Step, CorrectFrom, Correct}
use Rattle.model.specs.Sections.{is_outermost}
use Rattle.model.specs.Cone.{InCone, Earlier, brought, precedes, observes, matching}
use Rattle.model.proofs.Tests.{by_cases, in_cons, true-does}
use Rattle.model.proofs.Lists.{nearest_passes, mem_own, own_mem, mem_up_to, up_to_mem, none-nearest}
use Rattle.model.proofs.Histories.{Legal, legal_valid, beginning, enabled_by, last_write_mem}
use Rattle.model.proofs.Locks.{locked, locked_up_to}
use Rattle.model.proofs.MatchingExact.{matching_ends}
use Rattle.model.proofs.ObservedExact.{observed-write_exactly}
use Rattle.model.proofs.ConeEvents.{cone_valid}
use Rattle.decision.proofs.Solutions.{Rival}
use Rattle.decision.proofs.Holds.{same-holder, depths, holding, holding_on}
use Rattle.decision.proofs.InOrder.{Down, nearest_top}

-- the rules, of an order F
pub record Fits (t : Trace) (R : List ℕ) (F : ℕ → ℕ → Type 0) : Type 0 where
  -- an event comes after what it waits for
  pub awaiting : (j k : ℕ) → InCone t R k → Awaits t k j → F j k
  -- a read comes after its observed write, and one that saw the start after no write of its cell
  pub observing : (k w : ℕ) → InCone t R k → kind_of t k ≡ read → observed t k ≡ w → w ≢ 0 → F w k
  pub start : (k v : ℕ) → InCone t R k → kind_of t k ≡ read → observed t k ≡ 0 → InCone t R v → does t write (object_of t k) v ≡ true → ¬ F v k
  -- no other write comes between
  pub between : (k w v : ℕ) → Rival t R k w v → F v k → F v w
  -- a section that begins first ends before the next begins
  pub sections : (a b : ℕ) → is_outermost t a ≡ true → is_outermost t b ≡ true → InCone t R a → InCone t R b → object_of t a ≡ object_of t b → F a b
      → InCone t R (matching t a) × F (matching t a) b

-- one that says the same of the cone's events fits too
pub fits_same : (t : Trace) (R : List ℕ) (F G : ℕ → ℕ → Type 0) → ((j k : ℕ) → InCone t R j → InCone t R k → F j k → G j k)
    → ((j k : ℕ) → InCone t R j → InCone t R k → G j k → F j k) → Fits t R F → Fits t R G
fits_same t R F G to of f = record {
  awaiting = λ j k x a. to j k (brought x (precedes (inr a))) x (f.awaiting j k x a);
  observing = λ k w x r o ne. to w k (brought x (observes r o ne)) x (f.observing k w x r o ne);
  start = λ k v x r o y d l. f.start k v x r o y d (of v k y x l);
  between = λ k w v r l. to v w r.begun (brought r.reader (observes r.reads r.observes r.written)) (f.between k w v r (of v k r.begun r.reader l));
  sections = λ a b oa ob x y e l. let z = f.sections a b oa ob x y e (of a b x y l) in (z.0, to (matching t a) b z.0 y z.1);
}

module _ (t : Trace) (R : List ℕ) (v : (r : ℕ) → r ∈ R → Valid t r) (w : WellFormed t) (F : ℕ → ℕ → Type 0)
    (asym : (j k : ℕ) → F j k → F k j → ⊥) (turn : (j k : ℕ) → InCone t R j → InCone t R k → Earlier t j k → F j k) (fits : Fits t R F) where
  not_both : {j k : ℕ} → F j k → F k j → ⊥
  not_both {j} {k} p q = asym j k p q

  -- k stands after the history h, and τ after k
  record Placed (h : List ℕ) (k : ℕ) (τ : List ℕ) : Type 0 where
    legal : Legal t h
    down : Down F h
    here : InCone t R k
    from : (j : ℕ) → j ∈ h → InCone t R j
    past : (j : ℕ) → j ∈ h → F j k
    future : (j : ℕ) → j ∈ τ → F k j
    whole : (j : ℕ) → InCone t R j → (j ∈ h) ⊎ (j ∈ k ∷ τ)

  module _ (h : List ℕ) (k : ℕ) (τ : List ℕ) (s : Placed h k τ) where
    -- what must stand before it does
    must : (j : ℕ) → F j k → InCone t R j → j ∈ h
    must j b x =
        ⊎_elim (λ n. n) (λ n. in_cons n (λ e. let z : F k k = rw e at b in absurd (not_both z z)) (λ i. absurd (not_both (s.future j i) b))) (s.whole j x)

    enabled : Enabled t h k
    enabled =
        enabled_by t h s.legal k (cone_valid t R v s.here) (λ n. not_both (s.past k n) (s.past k n)) (λ j p q e.
        let i : Earlier t j k = record { first = p; less = q; thread = e } in
        let x : InCone t R j = brought s.here (precedes (inl i)) in
        must j (turn j k x s.here i) x)
        (λ j a. must j (fits.awaiting j k s.here a) (brought s.here (precedes (inr a))))

    -- ---- reads

    last_passed : last_write t (object_of t k) h ≢ 0 → (last_write t (object_of t k) h ∈ h) × (does t write (object_of t k) (last_write t (object_of t k) h) ≡ true)
    last_passed ne = (last_write_mem t (object_of t k) h ne, nearest_passes (does t write (object_of t k)) h ne)

    saw_start : kind_of t k ≡ read → observed t k ≡ 0 → last_write t (object_of t k) h ≡ 0
    saw_start r o =
        by_cases (eqb (last_write t (object_of t k) h) 0) (λ e. eqb-true _ _ e) (λ e.
        let y = last_passed (eqb-false _ _ e) in
        absurd (fits.start k _ s.here r o (s.from _ y.0) y.1 (s.past _ y.0)))

    saw_write : kind_of t k ≡ read → observed t k ≢ 0 → last_write t (object_of t k) h ≡ observed t k
    saw_write r o =
        let x = object_of t k in
        let b : LastBefore t x k (observed t k) = (observed-write_exactly t k (observed t k) o).0 refl in
        let own-write : does t write x (observed t k) ≡ true = true-does t write x (observed t k) b.writes b.cell in
        let n : observed t k ∈ h = must (observed t k) (fits.observing k (observed t k) s.here r refl o) (brought s.here (observes r refl o)) in
        let y = last_passed (λ z. none-nearest (does t write x) h (λ j i. (legal_valid t h s.legal j i).positive) z (observed t k) n own-write) in
        by_cases (eqb (last_write t x h) (observed t k)) (λ e. eqb-true _ _ e) (λ e.
        let ne = eqb-false _ _ e in
        let i : Rival t R k (observed t k) (last_write t x h) =
        record { reader = s.here; reads = r; observes = refl; written = o; begun = s.from _ y.0; writes = y.1; other = ne } in
        absurd (⊎_elim
        (λ d. ne (sym d))
        (λ a. not_both a (fits.between k (observed t k) (last_write t x h) i (s.past _ y.0)))
        (nearest_top F (does t write x) h s.down (observed t k) n own-write)))

    saw : kind_of t k ≡ read → Sees t h k
    saw r = by_cases (eqb (observed t k) 0) (λ e. let z = eqb-true _ _ e in saw_start r z ∙ sym z) (λ e. saw_write r (eqb-false _ _ e))

    -- ---- acquires

    -- nobody holds the lock: a section that has begun has ended
    not_held : is_outermost t k ≡ true → (d : ℕ) → holder t (object_of t k) h ≡ suc d → ⊥
    not_held ok d e =
        let g = beginning t h s.legal d in
        let z = same-holder t d (object_of t k) h (up_to g.0) (locked t w h s.legal) (locked_up_to t w g.0 g.1) g.2 e in
        let f = holding t w (object_of t k) d g.0 g.1 z in
        let a = f.start in
        let y : a ∈ own t d (up_to g.0) = own_mem t d (up_to_mem g.0 a f.valid.positive f.passed) f.thread in
        let n : a ∈ h = (mem_own t d a h (rw g.2 y)).0 in
        let c = fits.sections a k f.outermost ok (s.from a n) s.here f.lock (s.past a n) in
        let i : matching t a ∈ h = must (matching t a) c.1 c.0 in
        let p = (legal_valid t h s.legal (matching t a) i).positive in
        let ne : matching t a ≢ 0 = λ z. absurd (omega arith) in
        let u : matching t a ∈ own t d h = own_mem t d i ((matching_ends t a ne).thread ∙ f.thread) in
        let q = mem_up_to g.0 (matching t a) (mem_own t d (matching t a) (up_to g.0) (rw g.2 at u)).0 in
        let r = holding_on t w (object_of t k) d g.0 f ne in
        omega arith

    nobody_holds : is_outermost t k ≡ true → holder t (object_of t k) h ≡ 0
    nobody_holds ok = go (holder t (object_of t k) h) refl
      where
        go : (n : ℕ) → holder t (object_of t k) h ≡ n → holder t (object_of t k) h ≡ 0
        go zero e = e
        go (suc d) e = absurd (not_held ok d e)

    placed_step : Step t h k
    placed_step = record { enabled = enabled; sees = saw; free = λ a. ((depths t w h s.legal).taken k enabled.next a).1 nobody_holds }

  -- ---- the whole list

  walk : (h τ : List ℕ) → Legal t h → Down F h → Ordered F τ → ((j k : ℕ) → j ∈ h → k ∈ τ → F j k)
      → ((j : ℕ) → j ∈ h → InCone t R j) → ((j : ℕ) → j ∈ τ → InCone t R j) → ((j : ℕ) → InCone t R j → (j ∈ h) ⊎ (j ∈ τ)) → CorrectFrom t h τ
  walk h [] l d u c from to all = tt
  walk h (k ∷ τ) l d u c from to all =
      let st : Step t h k = placed_step h k τ (record {
        legal = l;
        down = d;
        here = to k (Memᴰ.head refl);
        from = from;
        past = λ j n. c j k n (Memᴰ.head refl);
        future = u.0;
        whole = all;
      }) in (
        st,
        walk (k ∷ h) τ (st, l) ((λ j n. c j k n (Memᴰ.head refl)), d) u.1
            (λ i j n q. in_cons n (λ e. rw e (u.0 j q)) (λ y. c i j y (Memᴰ.tail q)))
            (λ j n. in_cons n (λ e. rw e (to k (Memᴰ.head refl))) (from j)) (λ j n. to j (Memᴰ.tail n))
            (λ j x. ⊎_elim (λ n. inl (Memᴰ.tail n)) (λ n. in_cons n (λ e. inl (Memᴰ.head e)) (λ y. inr y)) (all j x)),
      )

  pub fits_correct : (ρ : List ℕ) → Ordered F ρ → ((j : ℕ) → j ∈ ρ → InCone t R j) → ((j : ℕ) → InCone t R j → j ∈ ρ) → Correct t ρ
  fits_correct ρ u to all = walk [] ρ tt tt u (λ j k n q. absurd (Memᴰ.not-nil n)) (λ j n. absurd (Memᴰ.not-nil n)) to (λ j x. inr (all j x))
