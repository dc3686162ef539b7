-- A thread's own depth agrees with who holds a lock and how deep.
use Prim.Native.Nat.{ℕ, zero, suc}
use native.Mathlib.Omega.{arith}
use native.Mathlib.Nat.{suc_inj}
use mathlib.Core.Path.{◌≡◌, refl, sym, ◌∙◌, ap}
use mathlib.Core.Logic.{◌≢◌, ◌⊎◌, inl, inr, ⊎_elim, ◌↔◌}
use mathlib.Core.Bool.{true, false, cond}
use mathlib.Core.List.{List, ◌∷◌, reverse}
use lib.Dec.{eqb}
use borrow.Author.Tests.{eqb-true, eqb-false, eq-eqb, ne_eqb}
use Rattle.model.specs.Trace.{Trace, Valid, acquire, release, thread_of, kind_of, object_of, does}
use Rattle.model.specs.Lists.{before, own, just}
use Rattle.model.specs.Good.{depth, holder, Free, Held, WellFormed}
use Rattle.model.specs.Reordering.{Next, Correct}
use Rattle.model.specs.Sections.{own_depth, is_outermost, is_last, OwnDepths}
use Rattle.model.proofs.Tests.{by_cases, both, clash, true_both, true-does, false-does, just-true, true-just}
use Rattle.model.proofs.Histories.{Legal, to_legal}
use Rattle.model.proofs.Locks.{Locked, sharing, nobody, lock-only, locked, locked_before, held_next}

-- ---- which events count

module _ (t : Trace) (k : ℕ) where
  pub outermost_acquires : is_outermost t k ≡ true → kind_of t k ≡ acquire
  unfolding is_outermost
  outermost_acquires e = eqb-true _ _ (both _ _ e).0

  pub last_releases : is_last t k ≡ true → kind_of t k ≡ release
  unfolding is_last
  last_releases e = eqb-true _ _ (both _ _ e).0

-- ---- depths

-- how deep one thread holds a lock, by who holds it and how deep
sharing-own : (c n d : ℕ) → sharing (just c) n d ≡ cond (eqb n (suc c)) d 0
sharing-own c zero d = rw (ne_eqb 0 (suc c) (omega arith))
sharing-own c (suc e) d =
    by_cases (just c e)
    (λ p. rw (p, eq-eqb (suc e) (suc c) (ap suc (just-true c e p))))
    (λ p. rw (p, ne_eqb (suc e) (suc c) (λ z. clash (true-just c e (suc_inj z)) p)))

module _ (t : Trace) (h : List ℕ) (l : Locked t h) where
  own-depth : (c x : ℕ) → depth t x (own t c h) ≡ cond (eqb (holder t x h) (suc c)) (depth t x h) 0
  own-depth c x = (lock-only t (just c) x h l).1 ∙ sharing-own c (holder t x h) (depth t x h)

  module _ (k : ℕ) (next : own t (thread_of t k) h ≡ own t (thread_of t k) (before k)) where
    abbrev c : ℕ
    c = thread_of t k

    abbrev x : ℕ
    x = object_of t k

    -- the depth by the thread's own events, before the event in the trace as after the history
    depth_here : own_depth t k ≡ cond (eqb (holder t x h) (suc c)) (depth t x h) 0
    unfolding own_depth
    depth_here = ap (depth t x) (sym next) ∙ own-depth c x

    pub depth_held : Held t h k → own_depth t k ≡ depth t x h
    depth_held g = depth_here ∙ rw (eq-eqb _ _ g)

    depth_unheld : holder t x h ≢ suc c → own_depth t k ≡ 0
    depth_unheld ne = depth_here ∙ rw (ne_eqb _ _ ne)

    pub depth_free : Free t h k → own_depth t k ≡ depth t x h
    depth_free (inl z) = let y : holder t x h ≢ suc c = omega arith in depth_unheld y ∙ sym ((nobody t x h l).0 z)
    depth_free (inr g) = depth_held g

    held_positive : Held t h k → depth t x h ≢ 0
    held_positive g z = let y = (nobody t x h l).1 z in omega arith

    outermost_unheld : kind_of t k ≡ acquire → (is_outermost t k ≡ true) ↔ (holder t x h ≢ suc c)
    unfolding is_outermost
    outermost_unheld a = (
      (λ o g. held_positive g (sym (depth_held g) ∙ eqb-true _ _ (both (eqb (kind_of t k) acquire) (eqb (own_depth t k) 0) o).1)),
      (λ ne. true_both (eq-eqb _ _ a) (eq-eqb _ _ (depth_unheld ne))),
    )

    taken_free : kind_of t k ≡ acquire → Free t h k ↔ (is_outermost t k ≡ true → holder t x h ≡ 0)
    taken_free a = (
      (λ f o. ⊎_elim (λ z. z) (λ g. absurd ((outermost_unheld a).0 o g)) f),
      (λ f. by_cases (eqb (holder t x h) (suc c)) (λ e. inr (eqb-true _ _ e)) (λ e. inl (f ((outermost_unheld a).1 (eqb-false _ _ e))))),
    )

    -- after a release by the holder nobody holds the lock exactly if it is a last one
    pub after-release : kind_of t k ≡ release → Held t h k → holder t x (k ∷ h) ≡ cond (is_last t k) 0 (suc c)
    unfolding is_last
    after-release r g =
        let na : does t acquire x k ≡ false = false-does t acquire x k (omega arith) in
        rw (na, true-does t release x k r refl, eq-eqb _ _ r, depth_held g, g)

    last_frees : kind_of t k ≡ release → Held t h k → (is_last t k ≡ true) ↔ (holder t x (k ∷ h) ≡ 0)
    last_frees r g = (
      (λ e. after-release r g ∙ rw e),
      (λ z. by_cases (is_last t k) (λ e. e) (λ e. let y : suc c ≡ 0 = sym (after-release r g ∙ rw e) ∙ z in absurd (omega arith))),
    )

-- ---- in a correct reordering of a well-formed trace, the trace itself among them

module _ (t : Trace) (w : WellFormed t) where
  -- a release is by the holder, and leaves the lock to it, unless it is a last one
  pub release_by_holder : (h : List ℕ) → Legal t h → (k : ℕ) → Next t h k → kind_of t k ≡ release → Held t h k
  release_by_holder h g = held_next t w h (locked t w h g)

  pub release_frees : (h : List ℕ) → Legal t h → (k : ℕ) → Next t h k → kind_of t k ≡ release → holder t (object_of t k) (k ∷ h) ≡ cond (is_last t k) 0 (suc (thread_of t k))
  release_frees h g k en r = let l = locked t w h g in after-release t h l k en.turn r (release_by_holder h g k en r)

  depths_agree : (h : List ℕ) → Legal t h → OwnDepths t h
  depths_agree h g =
      let l = locked t w h g in
      record {
        own-depth = own-depth t h l;
        unheld = λ x. nobody t x h l;
        outermost = λ k e a. outermost_unheld t h l k e.turn a;
        taken = λ k e a. taken_free t h l k e.turn a;
        last = λ k e r. last_frees t h l k e.turn r (release_by_holder h g k e r);
      }

  -- after a correct reordering a thread's own depth agrees with who holds a lock and how deep
  pub own_depths_agree : (ρ : List ℕ) → Correct t ρ → OwnDepths t (reverse ρ)
  own_depths_agree ρ c = depths_agree (reverse ρ) (to_legal t ρ c)

  -- and so before an acquire or a release of the trace
  pub own-depth-lock : (k : ℕ) → Valid t k → (kind_of t k ≡ acquire) ⊎ (kind_of t k ≡ release) → own_depth t k ≡ depth t (object_of t k) (before k)
  own-depth-lock k v s =
      let l = locked_before t w k v.bounded in
      ⊎_elim (λ a. depth_free t (before k) l k refl (w.taken_free k v a)) (λ r. depth_held t (before k) l k refl (w.given_back k v r)) s
