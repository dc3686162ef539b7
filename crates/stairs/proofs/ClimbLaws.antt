-- The merge by a staircase, an event at a time.
use Prim.Native.Nat.{ℕ, suc, ◌+◌, ◌≤◌, ◌<◌}
use native.Mathlib.Omega.{arith}
use native.Mathlib.Numerals.{add-one}
use mathlib.Core.Path.{◌≡◌, refl, sym, ◌∙◌}
use mathlib.Core.Logic.{⊎_elim}
use mathlib.Core.Bool.{Bool, true, false}
use mathlib.Core.List.{List, [], ◌∷◌}
use lib.ListN.{length, drop, set, length-set, drop_of_length-le}
use lib.Seq.{sets, drop-cons}
use lib.Dec.{leb, ltb}
use borrow.Author.Tests.{ltb-true, ltb-false, lt-ltb, le-leb, lt-leb}
use Rattle.model.specs.Lists.{in_front}
use Rattle.model.proofs.Tests.{by_cases, clash, both, true_both, either_true, or_right, false_test}
use Rattle.model.proofs.Lists.{sets_front, get_d_mem}
use Rattle.decision.specs.Stairs.{climb}
use Rattle.stairs.specs.Stairs.{at}
use Rattle.stairs.specs.Passes.{is_moved_next, Climbing}

-- ---- the merge by its first event

climb-none : (g : ℕ → ℕ) (Q : List ℕ) → climb g [] Q ≡ Q
unfolding climb
climb-none g Q = refl

climb-nil : (g : ℕ → ℕ) (P : List ℕ) → climb g P [] ≡ P
unfolding climb
climb-nil g [] = refl
climb-nil g (p ∷ P) = refl

module _ (g : ℕ → ℕ) (p : ℕ) (P : List ℕ) (q : ℕ) (Q : List ℕ) where
  climb-moved : leb p (g q) ≡ true → climb g (p ∷ P) (q ∷ Q) ≡ p ∷ climb g P (q ∷ Q)
  unfolding climb
  climb-moved e = rw (climb, e)

  climb_others : leb p (g q) ≡ false → climb g (p ∷ P) (q ∷ Q) ≡ q ∷ climb g (p ∷ P) Q
  unfolding climb
  climb_others e = rw (climb, e)

pub climb-length : (g : ℕ → ℕ) (P Q : List ℕ) → length (climb g P Q) ≡ length P + length Q
climb-length g [] Q = rw (climb-none g Q) (omega arith)
climb-length g (p ∷ P) [] = rw (climb-nil g (p ∷ P)) (omega arith)
climb-length g (p ∷ P) (q ∷ Q) =
    by_cases (leb p (g q))
    (λ e. rw (climb-moved g p P q Q e) (let a = climb-length g P (q ∷ Q) in omega arith))
    (λ e. rw (climb_others g p P q Q e) (let a = climb-length g (p ∷ P) Q in omega arith))

-- ---- and what it says of the merge from there

module _ (g : ℕ → ℕ) (P Q : List ℕ) (i j : ℕ) where
  pub next_in_lem : is_moved_next g P Q i j ≡ true → i < length P
  unfolding is_moved_next
  next_in_lem e = ltb-true i (length P) (both (ltb i (length P)) _ e).0

  next_under : is_moved_next g P Q i j ≡ true → j < length Q → leb (at P i) (g (at Q j)) ≡ true
  unfolding is_moved_next
  next_under e h = ⊎_elim (λ f. clash f (lt-leb (length Q) j h)) (λ f. f) (either_true (leb (length Q) j) (leb (at P i) (g (at Q j))) (both (ltb i (length P)) _ e).1)

  module _ (e : is_moved_next g P Q i j ≡ false) where
    next-none : length Q ≤ j → length P ≤ i
    unfolding is_moved_next
    next-none b = by_cases (ltb i (length P)) (λ f. clash (true_both f (rw (le-leb (length Q) j b))) e) (λ f. ltb-false i (length P) f)

    next_above : i < length P → leb (at P i) (g (at Q j)) ≡ false
    unfolding is_moved_next
    next_above h = false_test (λ f. f) (λ f. clash (true_both (lt-ltb i (length P) h) (or_right (leb (length Q) j) f)) e)

  step_moved : is_moved_next g P Q i j ≡ true → climb g (drop i P) (drop j Q) ≡ at P i ∷ climb g (drop (i + 1) P) (drop j Q)
  step_moved e =
      by_cases (ltb j (length Q))
      (λ f. let h = ltb-true j (length Q) f in
      rw (drop-cons Q j 0 h, drop-cons P i 0 (next_in_lem e), climb-moved g (at P i) (drop (suc i) P) (at Q j) (drop (suc j) Q) (next_under e h), add-one i))
      (λ f. let h = ltb-false j (length Q) f in
      rw (drop_of_length-le Q {i = j} h, climb-nil g (drop i P), climb-nil g (drop (i + 1) P), drop-cons P i 0 (next_in_lem e), add-one i))

  step_others : is_moved_next g P Q i j ≡ false → j < length Q → climb g (drop i P) (drop j Q) ≡ at Q j ∷ climb g (drop i P) (drop (j + 1) Q)
  step_others e h =
      by_cases (ltb i (length P))
      (λ f. let b = ltb-true i (length P) f in
      rw (drop-cons P i 0 b, drop-cons Q j 0 h, climb_others g (at P i) (drop (suc i) P) (at Q j) (drop (suc j) Q) (next_above e b), add-one j))
      (λ f. let b = ltb-false i (length P) f in
      rw (drop_of_length-le P {i = i} b, climb-none g (drop j Q), climb-none g (drop (j + 1) Q), drop-cons Q j 0 h, add-one j))

-- ---- the merge, written as far as place i of P and j of Q

pub record Merging (P Q need out₀ : List ℕ) (i j : ℕ) (out : List ℕ) : Type 0 where
  pub p_in : i ≤ length P
  pub q_in : j ≤ length Q
  pub long : length out ≡ length out₀
  pub whole : sets out (i + j) (climb (at need) (drop i P) (drop j Q)) ≡ sets out₀ 0 (climb (at need) P Q)

pub merging_start : (P Q need out : List ℕ) → Merging P Q need out 0 0 out
merging_start P Q need out = record { p_in = omega arith; q_in = omega arith; long = refl; whole = refl }

pub merging_stair : {P Q need out : List ℕ} → Climbing P Q need out → (j : ℕ) → j < length Q → at Q j < length need
merging_stair {Q = Q} w j h = w.stairs (at Q j) (get_d_mem Q j h)

module _ {P Q need out₀ : List ℕ} {i j : ℕ} {out : List ℕ} (p : Merging P Q need out₀ i j out) (k : ℕ) (d : i + j ≡ k) where
  module _ {b : Bool} (e : b ≡ is_moved_next (at need) P Q i j) where
    pub merging_in : b ≡ true → i < length P
    merging_in f = next_in_lem (at need) P Q i j (sym e ∙ f)

    pub merging_moved : b ≡ true → Merging P Q need out₀ (i + 1) j (set out k (at P i)) × (i + 1 + j ≡ k + 1)
    merging_moved f =
        let h = merging_in f in
        let a : i + 1 + j ≡ suc (i + j) = omega arith in
        let c = rw (step_moved (at need) P Q i j (sym e ∙ f)) at p.whole in
        rw (← d) (record { p_in = omega arith; q_in = p.q_in; long = length-set out (i + j) (at P i) ∙ p.long; whole = rw a c }, omega arith)

    module _ (f : b ≡ false) (l : k < length P + length Q) where
      pub merging_left : j < length Q
      merging_left =
          let a = p.p_in in
          by_cases (ltb j (length Q)) (λ g. ltb-true j (length Q) g) (λ g.
          let h = ltb-false j (length Q) g in
          let n = next-none (at need) P Q i j (sym e ∙ f) h in
          absurd (let c = p.q_in in omega arith))

      pub merging_others : Merging P Q need out₀ i (j + 1) (set out k (at Q j)) × (i + (j + 1) ≡ k + 1)
      merging_others =
          let h = merging_left in
          let a : i + (j + 1) ≡ suc (i + j) = omega arith in
          let c = rw (step_others (at need) P Q i j (sym e ∙ f) h) at p.whole in
          rw (← d) (record { p_in = p.p_in; q_in = omega arith; long = length-set out (i + j) (at Q j) ∙ p.long; whole = rw a c }, omega arith)

  pub merging_end : Climbing P Q need out₀ → length P + length Q ≤ k → out ≡ in_front (climb (at need) P Q) out₀
  merging_end w l =
      let x = p.p_in in
      let y = p.q_in in
      let c = rw (drop_of_length-le P {i = i} (omega arith), drop_of_length-le Q {i = j} (omega arith), climb-none (at need) []) at p.whole in
      let n = climb-length (at need) P Q in
      let r = w.room in c ∙ sets_front (climb (at need) P Q) out₀ (omega arith)
