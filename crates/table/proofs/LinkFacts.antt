-- What the links of an event say of the trace.
use Prim.Native.Nat.{ℕ, zero, suc, ◌≤◌, ◌<◌}
use native.Mathlib.Omega.{arith}
use mathlib.Core.Path.{◌≡◌, refl, sym, ◌∙◌}
use mathlib.Core.Logic.{◌≢◌, ◌⊎◌, inl, inr, ⊎_elim}
use mathlib.Core.Bool.{Bool, true}
use lib.ListN.{length}
use lib.Dec.{eqb, ltb}
use borrow.Author.Tests.{eqb-true, eqb-false, eq-eqb, ne_eqb, ltb-true, ltb-false}
use Rattle.model.specs.Trace.{Trace, Valid, read, write, acquire, fork, join, thread_of, kind_of, object_of, does}
use Rattle.model.specs.Lists.{◌∈◌, up_to, before, nearest, just}
use Rattle.model.specs.Observed.{observed}
use Rattle.model.specs.Good.{WellFormed, second}
use Rattle.model.specs.Awaits.{Awaits, forked, joined}
use Rattle.model.specs.Sections.{is_last}
use Rattle.model.specs.Cone.{Earlier, matching}
use Rattle.model.proofs.Tests.{by_cases, clash, just-true, true-just, does-true, true-does}
use Rattle.model.proofs.Lists.{nearest_mem, nearest_passes, none-nearest, mem_before, before_mem, mem_up_to}
use Rattle.model.proofs.AwaitsExact.{awaits_valid, awaits_before}
use Rattle.model.proofs.SectionsExact.{outermost_acquires, last_releases}
use Rattle.model.proofs.MatchingExact.{matching_ends, matching_valid}
use Rattle.table.specs.Links.{last_by, previous, waits_for, fork_of, release_of}

-- ---- the nearest event

module _ (p : ℕ → Bool) where
  pub nearest_less : (k : ℕ) → 1 ≤ k → nearest p (before k) < k
  nearest_less k h =
      by_cases (eqb (nearest p (before k)) 0)
      (λ e. let z : nearest p (before k) ≡ 0 = eqb-true _ _ e in omega arith)
      (λ e. (mem_before k _ (nearest_mem p (before k) (eqb-false _ _ e))).1)

  pub nearest_last : (m j : ℕ) → 1 ≤ j → j ≤ m → p j ≡ true → j ≤ nearest p (up_to m)
  nearest_last zero j h l e = absurd (omega arith)
  nearest_last (suc m) j h l e =
      by_cases (p (suc m))
      (λ f. rw f l)
      (λ f. rw f (nearest_last m j h (let ne : j ≢ suc m = λ q. clash (rw q at e) f in omega arith) e))

module _ (t : Trace) where
  -- ---- the event before in the thread

  pub previous_less : (k : ℕ) → 1 ≤ k → previous t k < k
  unfolding previous
  previous_less k h = nearest_less (λ j. just (thread_of t k) (thread_of t j)) k h

  pub previous_earlier : (k : ℕ) → previous t k ≢ 0 → Earlier t (previous t k) k
  unfolding previous
  previous_earlier k ne =
      let p : ℕ → Bool = λ j. just (thread_of t k) (thread_of t j) in
      let x = mem_before k (previous t k) (nearest_mem p (before k) ne) in
      record { first = x.0; less = x.1; thread = just-true (thread_of t k) _ (nearest_passes p (before k) ne) }

  -- no earlier event of the thread stands behind it
  pub previous_last : (j k : ℕ) → Earlier t j k → j ≤ previous t k
  unfolding previous
  previous_last j zero e = absurd (let z = e.less in omega arith)
  previous_last j (suc k) e =
      let z = e.less in
      nearest_last (λ i. just (thread_of t (suc k)) (thread_of t i)) k j e.first (omega arith) (true-just (thread_of t (suc k)) (thread_of t j) e.thread)

  -- ---- what a read or a join waits for

  pub reads_observed : (k : ℕ) → kind_of t k ≡ read → waits_for t k ≡ observed t k
  unfolding waits_for
  reads_observed k e = rw (eq-eqb _ _ e)

  joins_last : (k : ℕ) → kind_of t k ≡ join → waits_for t k ≡ last_by t (object_of t k)
  unfolding waits_for
  joins_last k e = rw (ne_eqb (kind_of t k) read (omega arith), eq-eqb _ _ e)

  pub waits_nothing : (k : ℕ) → kind_of t k ≢ read → kind_of t k ≢ join → waits_for t k ≡ 0
  unfolding waits_for
  waits_nothing k r j = rw (ne_eqb (kind_of t k) read r, ne_eqb (kind_of t k) join j)

  -- a join waits for an event of the joined thread
  pub last_joined : (k : ℕ) → kind_of t k ≡ join → waits_for t k ≢ 0 → Awaits t k (waits_for t k)
  last_joined k e ne =
      let p : ℕ → Bool = λ j. just (object_of t k) (thread_of t j) in
      let q = joins_last k e in
      let nz : nearest p (up_to (length t)) ≢ 0 = λ z. ne (q ∙ z) in
      let x = mem_up_to (length t) (nearest p (up_to (length t))) (nearest_mem p (up_to (length t)) nz) in
      rw q (joined e (record { positive = x.0; bounded = x.1 }) (just-true (object_of t k) _ (nearest_passes p (up_to (length t)) nz)))

  pub joined_thread : (k : ℕ) → kind_of t k ≡ join → waits_for t k ≢ 0 → thread_of t (waits_for t k) ≡ object_of t k
  joined_thread k e ne =
      let p : ℕ → Bool = λ j. just (object_of t k) (thread_of t j) in
      let q = joins_last k e in
      rw q (just-true (object_of t k) _ (nearest_passes p (up_to (length t)) (λ z. ne (q ∙ z))))

  -- and it is the last of those
  pub joined_last : (k j : ℕ) → kind_of t k ≡ join → Valid t j → thread_of t j ≡ object_of t k → j ≤ waits_for t k
  joined_last k j e v o =
      let x = nearest_last (λ i. just (object_of t k) (thread_of t i)) (length t) j v.positive v.bounded (true-just (object_of t k) (thread_of t j) o) in
      rw (joins_last k e) x

  -- by cases: a read observed it, or a join waits for it
  pub waits_cases : (k : ℕ) → waits_for t k ≢ 0 → ((kind_of t k ≡ read) × (observed t k ≡ waits_for t k)) ⊎ ((kind_of t k ≡ join) × Awaits t k (waits_for t k))
  waits_cases k ne =
      by_cases (eqb (kind_of t k) read) (λ e. let r = eqb-true _ _ e in inl (r, sym (reads_observed k r))) (λ e.
      by_cases (eqb (kind_of t k) join)
      (λ d. let j = eqb-true _ _ d in inr (j, last_joined k j ne))
      (λ d. absurd (ne (waits_nothing k (eqb-false _ _ e) (eqb-false _ _ d)))))

  pub waits_less : WellFormed t → (k : ℕ) → Valid t k → waits_for t k < k
  unfolding observed
  waits_less w k v =
      by_cases (eqb (waits_for t k) 0) (λ z. let e : waits_for t k ≡ 0 = eqb-true _ _ z in let p = v.positive in omega arith) (λ z.
      ⊎_elim
      (λ r. let p = v.positive in rw (← r.1) (nearest_less (λ j. does t write (object_of t k) j) k p))
      (λ j. awaits_before t w k (waits_for t k) v j.1)
      (waits_cases k (eqb-false _ _ z)))

  -- ---- the fork of its thread

  pub fork_on : (k : ℕ) → fork_of t k ≢ 0 → (kind_of t (fork_of t k) ≡ fork) × (object_of t (fork_of t k) ≡ thread_of t k)
  unfolding fork_of
  fork_on k ne = does-true t fork (thread_of t k) _ (nearest_passes (λ j. does t fork (thread_of t k) j) (before k) ne)

  pub fork_awaited : (k : ℕ) → fork_of t k ≢ 0 → Awaits t k (fork_of t k)
  fork_awaited k ne = let d = fork_on k ne in forked d.0 d.1

  pub fork_less : (k : ℕ) → 1 ≤ k → fork_of t k < k
  unfolding fork_of
  fork_less k h = nearest_less (λ j. does t fork (thread_of t k) j) k h

  -- it is the one fork of its thread
  pub fork-only : WellFormed t → (k : ℕ) → Valid t k → (j : ℕ) → kind_of t j ≡ fork → object_of t j ≡ thread_of t k → fork_of t k ≡ j
  unfolding fork_of
  fork-only w k v j f o =
      let c = thread_of t k in
      let p : ℕ → Bool = λ i. does t fork c i in
      let u = awaits_valid t k j (forked f o) in
      let lt = awaits_before t w k j v (forked f o) in
      let n : j ∈ before k = before_mem k j u.positive lt in
      let nz : nearest p (before k) ≢ 0 = λ z. none-nearest p (before k) (λ i m. (mem_before k i m).0) z j n (true-does t fork c j f o) in
      let i = nearest p (before k) in
      let d = does-true t fork c i (nearest_passes p (before k) nz) in
      let vi = awaits_valid t k i (forked d.0 d.1) in
      by_cases (eqb i j) (λ e. eqb-true _ _ e) (λ e.
      let ne = eqb-false i j e in
      by_cases (ltb i j)
      (λ l. absurd (w.other_once j u (second (ltb-true i j l) d.0 f (d.1 ∙ sym o))))
      (λ l. let z = ltb-false i j l in absurd (w.other_once i vi (second {j = j} (omega arith) f d.0 (o ∙ sym d.1)))))

  -- so the events of a thread have one
  pub fork-same : WellFormed t → (j k : ℕ) → Valid t j → Valid t k → thread_of t j ≡ thread_of t k → fork_of t j ≡ fork_of t k
  fork-same w j k u v e =
      by_cases (eqb (fork_of t j) 0)
      (λ z.
      by_cases (eqb (fork_of t k) 0)
      (λ y. eqb-true _ _ z ∙ sym (eqb-true _ _ y))
      (λ y. let d = fork_on k (eqb-false _ _ y) in fork-only w j u (fork_of t k) d.0 (d.1 ∙ sym e)))
      (λ z. let d = fork_on j (eqb-false _ _ z) in sym (fork-only w k v (fork_of t j) d.0 (d.1 ∙ e)))

  -- ---- where a section ends

  pub acquires_release : (k : ℕ) → kind_of t k ≡ acquire → release_of t k ≡ matching t k
  unfolding release_of
  acquires_release k e = by_cases (is_last t k) (λ l. let r = last_releases t k l in absurd (omega arith)) (λ l. rw l)

  -- a link to another event is that of an acquire
  pub release_acquires : (k : ℕ) → release_of t k ≢ 0 → release_of t k ≢ k → (kind_of t k ≡ acquire) × (matching t k ≡ release_of t k)
  unfolding release_of
  release_acquires k ne other = by_cases (is_last t k) (λ l. let z = rw l at other in absurd (z refl)) (λ l. rw l (outermost_acquires t k (matching_ends t k (rw l at ne)).outermost, refl))

  -- a last release is the event that is linked to itself
  pub last_release : (k : ℕ) → 1 ≤ k → is_last t k ≡ eqb (release_of t k) k
  unfolding release_of
  last_release k p =
      by_cases (is_last t k)
      (λ l. rw (l, eq-eqb k k refl))
      (λ l.
      let ne : matching t k ≢ k = λ z. let y = (matching_ends t k (λ u. let v : ⊥ = omega arith in v)).later in let v : ⊥ = omega arith in v in
      rw (l, ne_eqb (matching t k) k ne))

  pub release-after : (k : ℕ) → 1 ≤ k → k ≤ length t → release_of t k ≢ 0 → (k ≤ release_of t k) × (release_of t k ≤ length t)
  unfolding release_of
  release-after k p q ne =
      by_cases (is_last t k)
      (λ l. rw l (omega arith, q))
      (λ l.
      let m : matching t k ≢ 0 = rw l at ne in
      let z = (matching_ends t k m).later in rw l (omega arith, (matching_valid t k m).bounded))
