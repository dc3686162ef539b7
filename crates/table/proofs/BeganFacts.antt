-- Where an event's interval begins: the events of an interval are those that are linked to its beginning.
use Prim.Native.Nat.{ℕ, zero, suc, ◌≤◌, ◌<◌}
use native.Mathlib.Omega.{arith}
use mathlib.Core.Path.{◌≡◌, refl, sym, ◌∙◌, ap}
use mathlib.Core.Logic.{◌≢◌, ◌⊎◌, inl, inr, ⊎_elim}
use mathlib.Core.Bool.{Bool, true, ◌&&◌}
use lib.Dec.{eqb, leb}
use borrow.Author.Tests.{eqb-true, eqb-false, eq-eqb, ne_eqb}
use Rattle.model.specs.Trace.{Trace, Valid, read, write, acquire, release, thread_of, kind_of, object_of, does}
use Rattle.model.specs.Lists.{before, up_to}
use Rattle.model.specs.Observed.{observed}
use Rattle.model.specs.Good.{WellFormed, holder}
use Rattle.model.specs.Sections.{own_depth, is_outermost, is_last}
use Rattle.model.specs.Cone.{matching}
use Rattle.model.specs.Matching.{HoldEnd, freed}
use Rattle.model.proofs.Tests.{by_cases, both, true_both, either_true, true-does, false-does}
use Rattle.model.proofs.Lists.{nearest_passes}
use Rattle.model.proofs.SectionsExact.{outermost_acquires, last_releases, own-depth-lock}
use Rattle.model.proofs.MatchingExact.{Ends, matching_ends, matching_exactly, matching_valid}
use Rattle.model.proofs.ObservedExact.{observed-write_exactly}
use Rattle.decision.specs.Stairs.{is_opening, is_within}
use Rattle.decision.proofs.Holds.{holding, holding_on, sections_apart}
use Rattle.decision.proofs.IntervalTests.{true_within, within_true, true_opening}
use Rattle.table.specs.Links.{last_taken, began}
use Rattle.table.proofs.LinkFacts.{nearest_less, nearest_last}

module _ (t : Trace) where
  pub opening_cases : (k : ℕ) → is_opening t k ≡ true → (kind_of t k ≡ write) ⊎ (is_outermost t k ≡ true)
  unfolding is_opening
  opening_cases k e = ⊎_elim (λ a. inl (eqb-true _ _ a)) (λ a. inr a) (either_true (eqb (kind_of t k) write) (is_outermost t k) e)

  -- ---- by kind

  began-write : (k : ℕ) → kind_of t k ≡ write → began t k ≡ k
  unfolding began
  began-write k e = rw (eq-eqb _ _ e)

  pub began-observed : (k : ℕ) → kind_of t k ≡ read → began t k ≡ observed t k
  unfolding began
  began-observed k e = rw (ne_eqb (kind_of t k) write (omega arith), eq-eqb _ _ e)

  began_outermost : (k : ℕ) → is_outermost t k ≡ true → began t k ≡ k
  unfolding began
  began_outermost k o = let e = outermost_acquires t k o in rw (ne_eqb (kind_of t k) write (omega arith), ne_eqb (kind_of t k) read (omega arith), o)

  began_last : (k : ℕ) → is_last t k ≡ true → began t k ≡ last_taken t (object_of t k) (before k)
  unfolding began is_outermost
  began_last k l =
      let e = last_releases t k l in
      rw (ne_eqb (kind_of t k) write (omega arith), ne_eqb (kind_of t k) read (omega arith), ne_eqb (kind_of t k) acquire (omega arith), l)

  -- an event that begins an interval is in it
  pub opening_began : (k : ℕ) → is_opening t k ≡ true → began t k ≡ k
  opening_began k e = ⊎_elim (began-write k) (began_outermost k) (opening_cases k e)

  -- the cases of an event in an interval
  began_cases : (k : ℕ) → began t k ≢ 0 → (is_opening t k ≡ true) ⊎ ((kind_of t k ≡ read) ⊎ (is_last t k ≡ true))
  unfolding began is_opening
  began_cases k ne =
      by_cases (eqb (kind_of t k) write) (λ a. inl (rw a)) (λ a.
      by_cases (eqb (kind_of t k) read) (λ b. inr (inl (eqb-true _ _ b))) (λ b.
      by_cases (is_outermost t k) (λ c. inl (rw (a, c))) (λ c.
      by_cases (is_last t k) (λ d. inr (inr d)) (λ d. let z = rw (a, b, c, d) at ne in absurd (z refl)))))

  taken_true : (x : ℕ) (k : ℕ) → last_taken t x (before k) ≢ 0 → (is_outermost t (last_taken t x (before k)) ≡ true) × (object_of t (last_taken t x (before k)) ≡ x)
  taken_true x k ne =
      let p : ℕ → Bool = λ j. is_outermost t j && eqb (object_of t j) x in
      let z = both (is_outermost t (last_taken t x (before k))) _ (nearest_passes p (before k) ne) in
      (z.0, eqb-true _ _ z.1)

  -- it begins no later
  pub began-le : (k : ℕ) → 1 ≤ k → began t k ≤ k
  unfolding observed
  began-le k h =
      by_cases (eqb (began t k) 0) (λ z. let e : began t k ≡ 0 = eqb-true _ _ z in omega arith) (λ z.
      ⊎_elim
      (λ o. let e = opening_began k o in omega arith)
      (λ r.
      ⊎_elim
      (λ a. let e = began-observed k a in let l = nearest_less (λ j. does t write (object_of t k) j) k h in omega arith)
      (λ a. let e = began_last k a in let l = nearest_less (λ j. is_outermost t j && eqb (object_of t j) (object_of t k)) k h in omega arith)
      r)
      (began_cases k (eqb-false _ _ z)))

  pub began_valid : (k : ℕ) → Valid t k → began t k ≢ 0 → Valid t (began t k)
  began_valid k v ne = let l = began-le k v.positive in let b = v.bounded in record { positive = omega arith; bounded = omega arith }

  -- and what begins it begins an interval
  pub began_opening : (k : ℕ) → began t k ≢ 0 → is_opening t (began t k) ≡ true
  began_opening k ne =
      ⊎_elim
      (λ o. rw (opening_began k o) o)
      (λ r.
      ⊎_elim
      (λ a. let e = began-observed k a in true_opening t (began t k) (inl (rw e ((observed-write_exactly t k (observed t k) (λ z. ne (e ∙ z))).0 refl).writes)))
      (λ a. let e = began_last k a in true_opening t (began t k) (inr (rw e (taken_true (object_of t k) k (λ z. ne (e ∙ z))).0)))
      r)
      (began_cases k ne)

  module _ (w : WellFormed t) where
    -- ---- the section of a last release

    -- two sections of a lock: the earlier ends before the later begins
    apart : (a b k : ℕ) → Valid t a → Valid t b → is_outermost t a ≡ true → is_outermost t b ≡ true → object_of t a ≡ object_of t b → a ≤ b → b < k → (matching t a ≢ 0 → k ≤ matching t a) → a ≡ b
    apart a b k va vb oa ob e l lt on =
        by_cases (eqb a b) (λ z. eqb-true _ _ z) (λ z.
        let ne = eqb-false a b z in
        let s = sections_apart t w a b va vb oa ob e (omega arith) in
        let h = on s.0 in
        let i = s.1 in
        absurd (omega arith))

    last_freed : (n : ℕ) → Valid t (suc n) → is_last t (suc n) ≡ true → holder t (object_of t (suc n)) (up_to (suc n)) ≡ 0
    unfolding is_last
    last_freed n v l =
        let p = both (eqb (kind_of t (suc n)) release) (leb (own_depth t (suc n)) 1) l in
        let r : kind_of t (suc n) ≡ release = eqb-true _ _ p.0 in
        let d = own-depth-lock t w (suc n) v (inr r) in
        rw (false-does t acquire (object_of t (suc n)) (suc n) (omega arith), true-does t release (object_of t (suc n)) (suc n) r refl, ← d, p.1)

    -- the last outermost acquire of its lock begins it
    taken_matching : (k : ℕ) → Valid t k → is_last t k ≡ true → last_taken t (object_of t k) (before k) ≢ 0 → matching t (last_taken t (object_of t k) (before k)) ≡ k
    taken_matching zero v l ne = absurd (let z = v.positive in omega arith)
    taken_matching (suc n) v l ne =
        let x = object_of t (suc n) in
        let a = last_taken t x (up_to n) in
        let p : ℕ → Bool = λ j. is_outermost t j && eqb (object_of t j) x in
        let top = v.bounded in
        let i = taken_true x (suc n) ne in
        let below : a < suc n = nearest_less p (suc n) (omega arith) in
        let va : Valid t a = record { positive = omega arith; bounded = omega arith } in
        let s = holding t w x (thread_of t (suc n)) n (omega arith) (w.given_back (suc n) v (last_releases t (suc n) l)) in
        let low : s.start ≤ a = nearest_last p n s.start s.valid.positive s.passed (true_both s.outermost (eq-eqb _ _ s.lock)) in
        let same : s.start ≡ a =
        apart s.start a (suc n) s.valid va s.outermost i.0 (s.lock ∙ sym i.1) low below (λ z. let y = holding_on t w x (thread_of t (suc n)) n s z in omega arith) in
        let held = s.held in
        let free : holder t (object_of t s.start) (up_to (suc n)) ≡ 0 = ap (λ (y : ℕ). holder t y (up_to (suc n))) s.lock ∙ last_freed n v l in
        let passed = s.passed in
        let end : HoldEnd t s.start (suc n) = freed {r = suc n} (omega arith) top held free in
        ap (matching t) (sym same) ∙ (matching_exactly t w s.start s.valid s.outermost (suc n)).1 end

    -- a matching release is linked to its acquire
    matching-began : (a : ℕ) → Valid t a → matching t a ≢ 0 → began t (matching t a) ≡ a
    matching-began a va ne =
        let i = matching_ends t a ne in
        go (matching t a) refl i (matching_valid t a ne) (began_last (matching t a) i.last)
      where
        go : (r : ℕ) → matching t a ≡ r → Ends t a (matching t a) → Valid t (matching t a) → began t (matching t a) ≡ last_taken t (object_of t (matching t a)) (before (matching t a)) → began t (matching t a) ≡ a
        go zero m i vr e = absurd (ne m)
        go (suc n) m i vr e =
            let lt = i.later in
            let x = object_of t (suc n) in
            let p : ℕ → Bool = λ j. is_outermost t j && eqb (object_of t j) x in
            let b = last_taken t x (up_to n) in
            let here : object_of t a ≡ x = sym i.lock ∙ ap (object_of t) m in
            let le : a ≤ n = omega arith in
            let low : a ≤ b = nearest_last p n a va.positive le (true_both i.outermost (eq-eqb _ _ here)) in
            let first = va.positive in
            let nz : b ≢ 0 = λ z. let y : ⊥ = omega arith in y in
            let j = taken_true x (suc n) nz in
            let below : b < suc n = nearest_less p (suc n) (omega arith) in
            let top = vr.bounded in
            let vb : Valid t b = record { positive = omega arith; bounded = omega arith } in
            let same : a ≡ b = apart a b (suc n) va vb i.outermost j.0 (here ∙ sym j.1) low below (λ z. omega arith) in
            e ∙ rw m (sym same)

    -- ---- within an interval exactly when linked to its beginning

    pub began_within : (k : ℕ) → Valid t k → began t k ≢ 0 → is_within t (began t k) k ≡ true
    began_within k v ne =
        ⊎_elim
        (λ o. true_within t (began t k) k (inl (inl (sym (opening_began k o)))))
        (λ r.
        ⊎_elim
        (λ a. true_within t (began t k) k (inl (inr (a, sym (began-observed k a)))))
        (λ a. let e = began_last k a in true_within t (began t k) k (inr (rw e (taken_matching k v a (λ z. ne (e ∙ z))))))
        r)
        (began_cases k ne)

    pub within_began : (v k : ℕ) → Valid t v → Valid t k → is_opening t v ≡ true → is_within t v k ≡ true → began t k ≡ v
    within_began v k x y o i =
        ⊎_elim
        (λ r. ⊎_elim (λ e. rw e (opening_began v o)) (λ e. began-observed k e.0 ∙ e.1) r)
        (λ e. let p = y.positive in ap (began t) (sym e) ∙ matching-began v x (λ z. let n : ⊥ = omega arith in n))
        (within_true t v k i)

    -- the beginning of another event's interval is of its thread, but for a read
    pub began_thread : (k : ℕ) → Valid t k → began t k ≢ 0 → (kind_of t k ≡ read) ⊎ (thread_of t (began t k) ≡ thread_of t k)
    began_thread k v ne =
        ⊎_elim
        (λ o. inr (ap (thread_of t) (opening_began k o)))
        (λ r.
        ⊎_elim
        (λ a. inl a)
        (λ a.
        let e = began_last k a in
        let m = taken_matching k v a (λ z. ne (e ∙ z)) in
        let p = v.positive in
        inr (rw e (sym (matching_ends t (last_taken t (object_of t k) (before k)) (λ z. let n : ⊥ = omega arith in n)).thread ∙ ap (thread_of t) m)))
        r)
        (began_cases k ne)
