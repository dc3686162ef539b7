-- What the tests of the staircase's intervals say.
use Prim.Native.Nat.{ℕ}
use native.Mathlib.Omega.{arith}
use mathlib.Core.Path.{◌≡◌, sym, ◌∙◌}
use mathlib.Core.Logic.{◌⊎◌, inl, inr, ⊎_elim}
use mathlib.Core.Bool.{true, false, ◌&&◌}
use mathlib.Core.List.{List}
use lib.Dec.{eqb}
use borrow.Author.Tests.{eqb-true, eq-eqb}
use Rattle.model.specs.Trace.{Trace, Valid, read, write, kind_of, object_of}
use Rattle.model.specs.Lists.{◌∈◌}
use Rattle.model.specs.Observed.{observed}
use Rattle.model.specs.Sections.{is_outermost}
use Rattle.model.specs.Cone.{InCone, matching}
use Rattle.decision.specs.Rounds.{is_observed}
use Rattle.decision.specs.Stairs.{is_opening, is_alike, is_within}
use Rattle.model.proofs.Tests.{both, true_both, either_true, true-either, or_right, false_test}
use Rattle.model.proofs.SectionsExact.{outermost_acquires}
use Rattle.model.proofs.MatchingExact.{matching_inner}
use Rattle.decision.proofs.Solutions.{Reaches}
use Rattle.decision.proofs.ConeParts.{cone-positive, the_last}

module _ (t : Trace) where
  pub observed-true : (k w : ℕ) → is_observed t k w ≡ true → (kind_of t k ≡ read) × (observed t k ≡ w)
  unfolding is_observed
  observed-true k w e = let p = both (eqb (kind_of t k) read) (eqb (observed t k) w) e in (eqb-true _ _ p.0, eqb-true _ _ p.1)

  pub true-observed : (k w : ℕ) → kind_of t k ≡ read → observed t k ≡ w → is_observed t k w ≡ true
  unfolding is_observed
  true-observed k w r o = true_both (eq-eqb _ _ r) (eq-eqb _ _ o)

  -- two writes of one cell, or two sections on one lock
  abbrev pub Alike : ℕ → ℕ → Type 0
  Alike j k = (object_of t j ≡ object_of t k) × (((kind_of t j ≡ write) × (kind_of t k ≡ write)) ⊎ ((is_outermost t j ≡ true) × (is_outermost t k ≡ true)))

  pub alike_true : (j k : ℕ) → is_alike t j k ≡ true → Alike j k
  unfolding is_alike is_opening
  alike_true j k e =
      let p = both (is_opening t j && is_opening t k) _ e in
      let o = both (is_opening t j) (is_opening t k) p.0 in
      let q = both (eqb (kind_of t j) (kind_of t k)) (eqb (object_of t j) (object_of t k)) p.1 in
      let same : kind_of t j ≡ kind_of t k = eqb-true _ _ q.0 in (
        eqb-true _ _ q.1,
        ⊎_elim
            (λ a. let w : kind_of t j ≡ write = eqb-true _ _ a in inl (w, sym same ∙ w))
            (λ a.
            ⊎_elim
            (λ b. let w : kind_of t k ≡ write = eqb-true _ _ b in let z = outermost_acquires t j a in absurd (omega arith))
            (λ b. inr (a, b))
            (either_true (eqb (kind_of t k) write) (is_outermost t k) o.1))
            (either_true (eqb (kind_of t j) write) (is_outermost t j) o.0),
      )

  pub true_opening : (k : ℕ) → (kind_of t k ≡ write) ⊎ (is_outermost t k ≡ true) → is_opening t k ≡ true
  unfolding is_opening
  true_opening k s = true-either (eqb (kind_of t k) write) (is_outermost t k) (⊎_elim (λ e. inl (eq-eqb _ _ e)) inr s)

  pub true_alike : (j k : ℕ) → Alike j k → is_alike t j k ≡ true
  unfolding is_alike
  true_alike j k a =
      true_both
      (⊎_elim
      (λ w. true_both (true_opening j (inl w.0)) (true_opening k (inl w.1)))
      (λ o. true_both (true_opening j (inr o.0)) (true_opening k (inr o.1)))
      a.1)
      (true_both
      (eq-eqb _ _ (⊎_elim (λ w. w.0 ∙ sym w.1) (λ o. outermost_acquires t j o.0 ∙ sym (outermost_acquires t k o.1)) a.1))
      (eq-eqb _ _ a.0))

  pub within_true : (v k : ℕ) → is_within t v k ≡ true → Reaches t v k ⊎ (matching t v ≡ k)
  unfolding is_within
  within_true v k e =
      ⊎_elim
      (λ a. inl (inl (eqb-true _ _ a)))
      (λ a. ⊎_elim (λ b. inl (inr (observed-true k v b))) (λ b. inr (eqb-true _ _ b)) (either_true (is_observed t k v) (eqb (matching t v) k) a))
      (either_true (eqb k v) _ e)

  pub true_within : (v k : ℕ) → Reaches t v k ⊎ (matching t v ≡ k) → is_within t v k ≡ true
  unfolding is_within
  true_within v k s =
      ⊎_elim
      (λ r. ⊎_elim (λ e. rw (eq-eqb k v e)) (λ e. or_right (eqb k v) (rw (true-observed k v e.0 e.1))) r)
      (λ e. or_right (eqb k v) (or_right (is_observed t k v) (eq-eqb _ _ e)))
      s

module _ (t : Trace) (R : List ℕ) (v : (r : ℕ) → r ∈ R → Valid t r) where
  -- an interval of a write has no release, and one of a section no read
  pub within_write : (w k : ℕ) → InCone t R k → kind_of t w ≡ write → is_within t w k ≡ true → Reaches t w k
  within_write w k x e d =
      ⊎_elim (λ r. r)
      (λ z.
      let n : is_outermost t w ≡ false = false_test (outermost_acquires t w) (λ a. let i : ⊥ = omega arith in i) in
      absurd (cone-positive t R v x (sym z ∙ matching_inner t w n)))
      (within_true t w k d)

  pub within_section : (a k : ℕ) → InCone t R a → is_outermost t a ≡ true → is_within t a k ≡ true → (k ≡ a) ⊎ (matching t a ≡ k)
  within_section a k x o d =
      ⊎_elim
      (λ r.
      ⊎_elim
      (λ e. inl e)
      (λ e. let z = (the_last t R v k a e.1 (cone-positive t R v x)).writes in let y = outermost_acquires t a o in absurd (omega arith))
      r)
      (λ e. inr e)
      (within_true t a k d)
