-- The merge by the least staircase is the one shown where it is correct, and where it is not there is no candidate. So the computed answer is exact.
use Prim.Native.Nat.{ℕ, ◌≤◌}
use native.Mathlib.Omega.{arith}
use mathlib.Core.Path.{◌≡◌, refl, sym, ◌∙◌, ap}
use mathlib.Core.Logic.{◌⊎◌, inl, inr, ⊎_elim, ◌↔◌}
use mathlib.Core.Bool.{true}
use mathlib.Core.Option.{none, some, some-ne-none}
use mathlib.Core.List.{List}
use lib.ListN.{length}
use Rattle.model.specs.Trace.{Trace, Valid, thread_of}
use Rattle.model.specs.Lists.{◌∈◌, own, only, just, all_but, any_in, listed}
use Rattle.model.specs.Good.{WellFormed}
use Rattle.model.specs.Cone.{InCone}
use Rattle.model.specs.Race.{Candidate, Increasing, Shown}
use Rattle.decision.specs.Check.{is_correct}
use Rattle.decision.specs.Rounds.{cone}
use Rattle.decision.specs.Stairs.{stair_in, least_stairs, least_merge}
use Rattle.decision.specs.Decision.{shown_for}
use Rattle.model.proofs.Tests.{by_cases, clash}
use Rattle.model.proofs.Lists.{any_mem, mem_any, mem_listed, listed_mem, increasing_keep}
use Rattle.model.proofs.ConeEvents.{cone_valid}
use Rattle.model.proofs.OneShown.{shown_unique}
use Rattle.decision.proofs.CheckExact.{correct_exactly}
use Rattle.decision.proofs.ConeExact.{cone_exactly, cone_increasing}
use Rattle.decision.proofs.LeastStairs.{least_known, least_closed, least_below}
use Rattle.decision.proofs.Solutions.{Lower, Clear, Upper, Solution, Below, merge, stair_of}
use Rattle.decision.proofs.ConeParts.{release-part, part-P, Q-part}
use Rattle.decision.proofs.SolutionExactly.{merge_candidate, solution_correct, candidate_solution, candidate_merge, lower_preferred}
use Rattle.decision.proofs.ForcedExact.{solution_settled, settled_lower}

module _ (t : Trace) (R : List ℕ) (m : ℕ) (v : (r : ℕ) → r ∈ R → Valid t r) where
  -- ---- the other conditions are inherited downwards

  upper_below : (g h : ℕ → ℕ) → Below t R m g h → Upper t R m h → Upper t R m g
  upper_below g h f u = record {
    awaiting = λ p q x y i. let a = u.awaiting p q x y i in let b = f q y in omega arith;
    observing = λ p q x y r o. let a = u.observing p q x y r o in let b = f q y in omega arith;
    start = λ q i y x r o d. let a = u.start q i y x r o d in let b = f q y in omega arith;
    later = λ q o i y xo xi r e d l. let a = u.later q o i y xo xi r e d l in let b = f q y in omega arith;
    earlier = λ q o i y xo xi r e d l. let a = u.earlier q o i y xo xi r e d l in let b = f i xi in omega arith;
  }

  clear_below : (g h : ℕ → ℕ) → Below t R m g h → Clear t R m h → Clear t R m g
  clear_below g h f u = record {
    endless = λ a b x y c d e. let i = u.endless a b x y c d e in let j = f _ (release-part t R v m b y d.ended) in omega arith;
    one_open = u.one_open;
    last_open = u.last_open;
  }

  -- ---- the least staircase

  abbrev P : List ℕ
  P = own t m (cone t R)

  abbrev Q : List ℕ
  Q = only t (all_but m) (cone t R)

  abbrev least : ℕ → ℕ
  least q = stair_in Q (least_stairs t P Q) q

  increasing : Increasing P
  increasing = increasing_keep (λ k. just m (thread_of t k)) (cone t R) (cone_increasing t R)

  bounded : (p : ℕ) → p ∈ P → p ≤ length t
  bounded p n = (cone_valid t R v (part-P t R v m p n).inside).bounded

  least_lower : Lower t R m least
  least_lower = settled_lower t R m v least (least_closed t P Q increasing bounded) (least_known t P Q increasing bounded)

  -- no solution is lower
  solution_above : (h : ℕ → ℕ) → Solution t R m h → Below t R m least h
  solution_above h s q x = least_below t P Q increasing bounded h (solution_settled t R m v h s) q (Q-part t R v m q x)

  -- so where there is one it is one
  least_solution : (h : ℕ → ℕ) → Solution t R m h → Solution t R m least
  least_solution h s =
      let le = solution_above h s in
      record { lower = least_lower; clear = clear_below least h le s.clear; upper = upper_below least h le s.upper }

  -- its merge
  abbrev found : List ℕ
  found = least_merge t P Q

  same-merge : found ≡ merge t R m least
  unfolding least_merge
  same-merge = refl

  module _ (w : WellFormed t) where
    -- where there is a candidate its merge is correct
    candidate_correct : (τ : List ℕ) → Candidate t R m τ → is_correct t found ≡ true
    candidate_correct τ c = rw same-merge ((correct_exactly t (merge t R m least)).1 (solution_correct t R m v w least (least_solution (stair_of t m τ) (candidate_solution t R m v w τ c))))

    -- and where it is correct it is the one shown
    correct_shown : ((r : ℕ) → r ∈ R → ¬ InCone t R r) → is_correct t found ≡ true → Shown t R m found
    correct_shown out e = rw same-merge (record {
      candidate = merge_candidate t R m v least least_lower.rises out ((correct_exactly t (merge t R m least)).0 (rw same-merge at e));
      chosen = λ τ c. rw (candidate_merge t R m v w τ c) at (lower_preferred t R m v least (stair_of t m τ) (solution_above (stair_of t m τ) (candidate_solution t R m v w τ c)));
    })

    -- ---- the answer

    answer : ((shown_for t R m ≡ none) × ((τ : List ℕ) → ¬ Candidate t R m τ)) ⊎ ((shown_for t R m ≡ some found) × Shown t R m found)
    unfolding shown_for
    answer =
        by_cases (any_in (λ r. listed r (cone t R)) R)
        (λ e.
        let r = mem_any (λ r. listed r (cone t R)) R e in
        inl (rw e, λ τ c. c.roots_out r.0 r.1 ((cone_exactly t R v r.0).0 (listed_mem r.0 (cone t R) r.2))))
        (λ e.
        let out : (r : ℕ) → r ∈ R → ¬ InCone t R r = λ r x y. clash (any_mem (λ r. listed r (cone t R)) x (mem_listed ((cone_exactly t R v r).1 y))) e in
        by_cases (is_correct t found) (λ d. inr (rw (e, d), correct_shown out d)) (λ d. inl (rw (e, d), λ τ c. clash (candidate_correct τ c) d)))

    -- the reordering shown exactly when there is one
    pub shown_exactly : (ρ : List ℕ) → (shown_for t R m ≡ some ρ) ↔ Shown t R m ρ
    shown_exactly ρ = (
      (λ e. ⊎_elim (λ a. absurd (some-ne-none ρ (sym e ∙ a.0))) (λ a. let z : some found ≡ some ρ = sym a.0 ∙ e in let d : found ≡ ρ = cc in rw d at a.1) answer),
      (λ s. ⊎_elim (λ a. absurd (a.1 ρ s.candidate)) (λ a. a.0 ∙ ap some (shown_unique t R m found ρ a.1 s)) answer),
    )

    -- and none exactly when there is no candidate
    pub shown-none : (shown_for t R m ≡ none) ↔ ((ρ : List ℕ) → ¬ Candidate t R m ρ)
    shown-none = (
      (λ e. ⊎_elim (λ a. a.1) (λ a. absurd (some-ne-none found (sym a.0 ∙ e))) answer),
      (λ f. ⊎_elim (λ a. a.0) (λ a. absurd (f found a.1.candidate)) answer),
    )
