-- What an event of Q needs by what it waits for, observed or overwrote: the pass.
use Prim.Native.Nat.{ℕ, suc, ◌+◌, ◌≤◌, ◌<◌, zero-le}
use native.Mathlib.Omega.{arith}
use native.Mathlib.Numerals.{add-one}
use mathlib.Core.Path.{◌≡◌, refl, sym, ◌∙◌, ap}
use mathlib.Core.Logic.{◌≢◌, ◌⊎◌, inl, inr, ⊎_elim}
use mathlib.Core.Bool.{Bool, true, false, ◌&&◌, not}
use mathlib.Core.List.Memᴰ
use mathlib.Core.List.{List, ◌∷◌}
use lib.ListN.{length, get_or, set, replicate, length-set}
use lib.Seq.{get_or-set_same, get_or-set_other}
use lib.Dec.{eqb, ltb}
use borrow.Author.Tests.{eqb-true, eqb-false, eq-eqb, ne_eqb, ltb-true, lt-ltb, not-true}
use Rattle.model.specs.Trace.{Trace, Valid, read, write, fork, join, thread_of, kind_of, object_of, does}
use Rattle.model.specs.Lists.{◌∈◌, nearest, listed, just, passed}
use Rattle.model.specs.Observed.{observed}
use Rattle.model.specs.Good.{Good, max_object}
use Rattle.model.specs.Awaits.{Awaits, forked, joined}
use Rattle.model.proofs.Tests.{by_cases, in_cons, clash, both, false_test, does-true, true-does, just-true, object_small}
use Rattle.model.proofs.Lists.{get_d_mem, reverse_mem, nearest_mem, nearest_passes, mem_listed, listed_mem}
use Rattle.model.proofs.Passed.{passed-suc, passed-all, passed_in, passed_below, below_passed, passed_last}
use Rattle.decision.specs.Rounds.{is_observed}
use Rattle.decision.specs.Stairs.{is_overwriting}
use Rattle.decision.proofs.CheckExact.{awaited_true, true_awaited}
use Rattle.decision.proofs.IntervalTests.{observed-true, true-observed}
use Rattle.stairs.specs.Stairs.{at}
use Rattle.table.specs.declared.judged.Table.{Table}
use Rattle.table.specs.Judged.{events}
use Rattle.table.specs.Links.{waits_for, fork_of}
use Rattle.table.specs.Entries.{Entries}
use Rattle.table.proofs.LinkFacts.{waits_less, waits_cases, reads_observed, joined_last, joined_thread, fork_less, fork_on, fork-only}
use Rattle.table.proofs.EntryLaws.{entries_new, entries-same, entries_put}
use Rattle.bounds.specs.Parts.{Parts}
use Rattle.bounds.specs.Bounds.{is_own, Last, Given, Needed}
use Rattle.bounds.specs.Steps.{is_outside, last_read, with_read, Reading, Read, own_event, action_bound, first_bound, First}
use Rattle.bounds.proofs.EndLaws.{true-own}
use Rattle.bounds.proofs.LastLaws.{last_map, last_two}

pub waits_few : {t : Trace} → Good t → (e : ℕ) → Valid t e → (w : ℕ) → w ≡ waits_for t e → w ≤ length t
waits_few {t} g e v w q = let l = waits_less t g.well_formed e v in let b = v.bounded in omega arith

pub fork_few : (t : Trace) (e : ℕ) → Valid t e → (w : ℕ) → w ≡ fork_of t e → w ≤ length t
fork_few t e v w q = let l = fork_less t e v.positive in let b = v.bounded in omega arith

pub own-true : (t : Trace) (m w : ℕ) → is_own t m w ≡ true → (w ≢ 0) × (thread_of t w ≡ m)
unfolding is_own
own-true t m w e =
    let p = both (not (eqb w 0)) (just m (thread_of t w)) e in
    (eqb-false w 0 (not-true _ p.0), just-true m (thread_of t w) p.1)

-- ---- `note_reads`

module _ {s : Table} {m : ℕ} {P : List ℕ} {k i : ℕ} {seen : List ℕ} (p : Reading s m P k i seen) where
  abbrev t : Trace
  t = events s

  pub reading_stop : i < length P → (e : ℕ) → e ≡ get_or P i 0 → k ≤ e → Read s m P k i seen
  reading_stop h e ee l = record { reading = p; all = λ y n lt. below_passed P i p.up h y n (omega arith) }

  pub reading_end : length P ≤ i → Read s m P k (length P) seen
  reading_end h =
      let f = p.few in
      let e : length P ≡ i = omega arith in
      rw e (record { reading = p; all = λ e n l. rw (passed-all P i h) (reverse_mem n) })

  module _ (h : i < length P) (e : ℕ) (ee : e ≡ get_or P i 0) where
    pub reading_valid : Valid (events s) e
    reading_valid = rw ee (p.valid (get_or P i 0) (get_d_mem P i h))

    knows_more : Entries (last_read t m (e ∷ passed P i)) max_object (with_read t m e seen)
    unfolding with_read
    knows_more =
        let g = s.links.good in
        by_cases (is_outside t m e)
        (λ o. rw o (entries_put p.knows (last_read t m (e ∷ passed P i)) (object_of t e) e (object_small t g e reading_valid) (rw (o, eq-eqb (object_of t e) (object_of t e) refl)) (λ y ne. rw (o, ne_eqb (object_of t e) y (λ z. ne (sym z))))))
        (λ o. rw o (entries-same p.knows (last_read t m (e ∷ passed P i)) (λ y. rw o)))

    pub reading_more : e < k → {seen' : List ℕ} → seen' ≡ with_read (events s) m e seen → Reading s m P k (i + 1) seen'
    reading_more lt q =
        let a : passed P (suc i) ≡ e ∷ passed P i = passed-suc P i h ∙ ap (λ (x : ℕ). x ∷ passed P i) (sym ee) in
        rw (q, add-one i) (record {
          valid = p.valid;
          up = p.up;
          few = omega arith;
          below = λ y n. in_cons (rw a at n) (λ z. let d : y ≡ e = z in omega arith) (p.below y);
          knows = rw a knows_more;
        })

-- ---- what it is

module _ (s : Table) {m : ℕ} {P Q : List ℕ} (g : Parts (events s) m P Q) where
  abbrev t₁ : Trace
  t₁ = events s

  -- a read's observed write is P's own exactly when it is of the moved thread
  own_in : (k : ℕ) → (k ∈ P) ⊎ (k ∈ Q) → kind_of t₁ k ≡ read → is_own t₁ m (observed t₁ k) ≡ true → observed t₁ k ∈ P
  own_in k n r o =
      let y = own-true t₁ m (observed t₁ k) o in
      ⊎_elim (λ i. i) (λ i. absurd (g.others_thread (observed t₁ k) i y.1)) (g.seen k n r y.0)

  in_own : (w : ℕ) → w ∈ P → is_own t₁ m w ≡ true
  in_own w n = let p = (g.moved w n).positive in true-own t₁ m w (λ z. let u : ⊥ = omega arith in u) (g.moved_thread w n)

  -- an awaited event is P's own exactly when it is of the moved thread
  own_awaited : (k j : ℕ) → k ∈ Q → Awaits t₁ k j → thread_of t₁ j ≡ m → j ∈ P
  own_awaited k j n a e = ⊎_elim (λ i. i) (λ i. absurd (g.others_thread j i e)) (g.awaited j k (inr n) a)

  -- what event k of Q needs by its own action: p is observed, or overwritten, or an event of the thread that k joins
  abbrev Acts : ℕ → ℕ → Type 0
  Acts p k = ((kind_of t₁ k ≡ join) × (thread_of t₁ p ≡ object_of t₁ k)) ⊎ ((is_observed t₁ k p ≡ true) ⊎ (is_overwriting t₁ P p k ≡ true))

  module _ {k i : ℕ} {seen : List ℕ} (n : k ∈ Q) (r : Read s m P k i seen) where
    written : kind_of t₁ k ≡ write → Last P (λ p. Acts p k) (last_read t₁ m (passed P i) (object_of t₁ k))
    unfolding is_overwriting is_outside
    written d = record {
      above = λ p i₁ f.
          ⊎_elim
          (λ o. let z = o.0 in absurd (omega arith))
          (λ f₁.
          ⊎_elim
          (λ o. let z = (observed-true t₁ k p o).0 in absurd (omega arith))
          (λ o.
          let a = both (eqb (kind_of t₁ p) read && not (listed (observed t₁ p) P)) _ o in
          let b = both (eqb (kind_of t₁ p) read) (not (listed (observed t₁ p) P)) a.0 in
          let c = both (does t₁ write (object_of t₁ p) k) (ltb p k) a.1 in
          let rd : kind_of t₁ p ≡ read = eqb-true _ _ b.0 in
          let out : is_own t₁ m (observed t₁ p) ≡ false = false_test (λ z. own_in p (inl i₁) rd z) (λ z. clash (mem_listed z) (not-true _ b.1)) in
          let x : object_of t₁ p ≡ object_of t₁ k = sym (does-true t₁ write (object_of t₁ p) k c.0).1 in
          passed_last (λ e. is_outside t₁ m e && eqb (object_of t₁ e) (object_of t₁ k)) P i p g.moved_up (r.all p i₁ (ltb-true p k c.1))
          (rw (b.0, out, eq-eqb _ _ x)))
          f₁)
          f;
      from =
          by_cases (eqb (last_read t₁ m (passed P i) (object_of t₁ k)) 0)
          (λ z. inl (eqb-true _ _ z))
          (λ z.
          let ne = eqb-false _ _ z in
          let test : ℕ → Bool = λ e. is_outside t₁ m e && eqb (object_of t₁ e) (object_of t₁ k) in
          let e = nearest test (passed P i) in
          let in-h = nearest_mem test (passed P i) ne in
          let in-P = passed_in P i e in-h in
          let y = both (is_outside t₁ m e) (eqb (object_of t₁ e) (object_of t₁ k)) (nearest_passes test (passed P i) ne) in
          let o = both (eqb (kind_of t₁ e) read) (not (is_own t₁ m (observed t₁ e))) y.0 in
          let out : listed (observed t₁ e) P ≡ false = false_test (λ a. in_own _ (listed_mem (observed t₁ e) P a)) (λ a. clash a (not-true _ o.1)) in
          let x : object_of t₁ k ≡ object_of t₁ e = sym (eqb-true _ _ y.1) in
          inr (in-P, inr (inr (rw (o.0, out, true-does t₁ write (object_of t₁ e) k d x, lt-ltb e k (r.reading.below e in-h))))));
    }

    waiting : kind_of t₁ k ≢ write → Last P (λ p. Acts p k) (own_event t₁ m (waits_for t₁ k))
    unfolding is_overwriting own_event
    waiting d = record {
      above = λ p i₁ f.
          ⊎_elim
          (λ o.
          let low = joined_last t₁ k p o.0 (g.moved p i₁) o.1 in
          let one = (g.moved p i₁).positive in
          let nz : waits_for t₁ k ≢ 0 = λ z. let u : ⊥ = omega arith in u in
          let own = true-own t₁ m (waits_for t₁ k) nz (joined_thread t₁ k o.0 nz ∙ sym o.1 ∙ g.moved_thread p i₁) in
          rw own low)
          (λ f₁.
          ⊎_elim
          (λ o.
          let a = observed-true t₁ k p o in
          let e : waits_for t₁ k ≡ p = reads_observed t₁ k a.0 ∙ a.1 in
          rw (e, in_own p i₁) (omega arith))
          (λ o.
          let a = both (eqb (kind_of t₁ p) read && not (listed (observed t₁ p) P)) _ o in
          absurd (d (does-true t₁ write (object_of t₁ p) k (both (does t₁ write (object_of t₁ p) k) (ltb p k) a.1).0).0))
          f₁)
          f;
      from =
          by_cases (is_own t₁ m (waits_for t₁ k))
          (λ z.
          let y = own-true t₁ m (waits_for t₁ k) z in
          rw z
          (⊎_elim
          (λ a. inr (rw a.1 at (own_in k (inr n) a.0 (rw a.1 z)), inr (inl (true-observed t₁ k (waits_for t₁ k) a.0 a.1))))
          (λ a. inr (own_awaited k (waits_for t₁ k) n a.1 y.1, inl (a.0, joined_thread t₁ k a.0 y.0)))
          (waits_cases t₁ k y.0)))
          (λ z. rw z (inl refl));
    }

    acting : Last P (λ p. Acts p k) (action_bound t₁ m k seen)
    unfolding action_bound
    acting =
        by_cases (eqb (kind_of t₁ k) write)
        (λ e. let l = object_small t₁ s.links.good k (g.others k n) in rw (e, r.reading.knows.is (object_of t₁ k) l) (written (eqb-true _ _ e)))
        (λ e. rw e (waiting (eqb-false _ _ e)))

    forking : Last P (λ p. does t₁ fork (thread_of t₁ k) p ≡ true) (own_event t₁ m (fork_of t₁ k))
    unfolding own_event
    forking = record {
      above = λ p i₁ f.
          let d = does-true t₁ fork (thread_of t₁ k) p f in
          let e : fork_of t₁ k ≡ p = fork-only t₁ s.links.good.well_formed k (g.others k n) p d.0 d.1 in
          rw (e, in_own p i₁) (omega arith);
      from =
          by_cases (is_own t₁ m (fork_of t₁ k))
          (λ z.
          let y = own-true t₁ m (fork_of t₁ k) z in
          let d = fork_on t₁ k y.0 in
          rw z (inr (own_awaited k (fork_of t₁ k) n (forked d.0 d.1) y.1, true-does t₁ fork (thread_of t₁ k) (fork_of t₁ k) d.0 d.1)))
          (λ z. rw z (inl refl));
    }

    first_is : Last P (λ p. First t₁ P p k) (first_bound t₁ m k seen)
    unfolding first_bound
    first_is = last_map to from (last_two (action_bound t₁ m k seen) (own_event t₁ m (fork_of t₁ k)) acting forking)
      where
        to : (p : ℕ) → p ∈ P → Acts p k ⊎ (does t₁ fork (thread_of t₁ k) p ≡ true) → First t₁ P p k
        to p i₁ (inl (inl a)) = inl (true_awaited t₁ k p (joined a.0 (g.moved p i₁) a.1))
        to p i₁ (inl (inr a)) = inr a
        to p i₁ (inr a) = let d = does-true t₁ fork (thread_of t₁ k) p a in inl (true_awaited t₁ k p (forked d.0 d.1))

        awaits : (p : ℕ) → Awaits t₁ k p → Acts p k ⊎ (does t₁ fork (thread_of t₁ k) p ≡ true)
        awaits p (forked f o) = inr (true-does t₁ fork (thread_of t₁ k) p f o)
        awaits p (joined f v o) = inl (inl (f, o))

        from : (p : ℕ) → p ∈ P → First t₁ P p k → Acts p k ⊎ (does t₁ fork (thread_of t₁ k) p ≡ true)
        from p i₁ (inl a) = awaits p (awaited_true t₁ k p a)
        from p i₁ (inr a) = inl (inr a)

-- ---- `add_first`

pub record Firsts (s : Table) (m : ℕ) (P Q need₀ : List ℕ) (i j : ℕ) (seen need : List ℕ) : Type 0 where
  pub same : length need ≡ length need₀
  pub given : Given s m P Q need
  pub few : i ≤ length P
  pub below : j < length Q → (e : ℕ) → e ∈ passed P i → e < get_or Q j 0
  pub knows : Entries (last_read (events s) m (passed P i)) max_object seen
  pub is : (k : ℕ) → k ∈ passed Q j → Last P (λ p. First (events s) P p k) (at need k)

pub firsts_start : {s : Table} {m : ℕ} {P Q need : List ℕ} → Given s m P Q need → Firsts s m P Q need 0 0 (replicate (max_object + 1) 0) need
firsts_start g = record {
  same = refl;
  given = g;
  few = zero-le;
  below = λ h e n. absurd (Memᴰ.not-nil n);
  knows = entries_new _ max_object (λ x. refl);
  is = λ k n. absurd (Memᴰ.not-nil n);
}

module _ {s : Table} {m : ℕ} {P Q need₀ : List ℕ} {i j : ℕ} {seen need : List ℕ} (p : Firsts s m P Q need₀ i j seen need) where
  pub firsts_end : length Q ≤ j → Needed s m P Q (First (events s) P) need
  firsts_end h = record { given = p.given; are = record { is = λ k n. p.is k (rw (passed-all Q j h) (reverse_mem n)) } }

  module _ (h : j < length Q) (k : ℕ) (ek : k ≡ get_or Q j 0) where
    here : k ∈ Q
    here = rw ek (get_d_mem Q j h)

    pub firsts_valid : Valid (events s) k
    firsts_valid = p.given.parts.others k here

    pub firsts_room : k < length need
    firsts_room = let b = firsts_valid.bounded in let r = p.given.room in omega arith

    pub firsts_more : {r : ℕ} {seen' : List ℕ} → Read s m P k r seen' → (x : ℕ) → x ≡ first_bound (events s) m k seen' → Firsts s m P Q need₀ r (j + 1) seen' (set need k x)
    firsts_more {r} {seen'} d x ex =
        let l = length-set need k x in
        let z = p.given.room in
        let a : passed Q (suc j) ≡ k ∷ passed Q j = passed-suc Q j h ∙ ap (λ (y : ℕ). y ∷ passed Q j) (sym ek) in
        let u = p.given.parts.others_up in
        rw (add-one j) (record {
          same = l ∙ p.same;
          given = record { parts = p.given.parts; room = omega arith };
          few = d.reading.few;
          below = λ h' e n.
              let lt = d.reading.below e n in
              let b : k < get_or Q (suc j) 0 = rw ek (passed_below Q (suc j) u h' (get_or Q j 0) (rw (passed-suc Q j h) (Memᴰ.head refl))) in
              omega arith;
          knows = d.reading.knows;
          is = λ y n.
              in_cons (rw a at n)
              (λ e. rw (e, get_or-set_same need k x 0 firsts_room, ex) (first_is s p.given.parts here d))
              (λ i₁.
              let lt = passed_below Q j u h y i₁ in
              let ne : y ≢ k = λ q. let v : ⊥ = omega arith in v in
              rw (get_or-set_other need k y x 0 ne) (p.is y i₁));
        })
