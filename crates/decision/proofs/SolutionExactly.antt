-- The merge by a solution is correct, and a candidate is the merge by its own staircase, a solution. Of two staircases the lower gives the preferred merge.
use Prim.Native.Nat.{ℕ, ◌≤◌, ◌<◌}
use native.Mathlib.Omega.{arith}
use mathlib.Core.Path.{◌≡◌, sym, ◌∙◌, ap}
use mathlib.Core.Logic.{◌⊎◌, inl, inr, ⊎_elim}
use mathlib.Core.Bool.{Bool, true, false}
use mathlib.Core.List.{List, [], ◌∷◌, reverse}
use Rattle.model.specs.Trace.{Trace, Valid, thread_of}
use Rattle.model.specs.Lists.{◌∈◌, Ordered, only, own, just, all_but}
use Rattle.model.specs.Good.{WellFormed}
use Rattle.model.specs.Reordering.{Correct}
use Rattle.model.specs.Cone.{InCone, Earlier}
use Rattle.model.specs.Race.{Candidate, Increasing, Preferred}
use Rattle.decision.specs.Rounds.{cone}
use Rattle.model.proofs.Tests.{by_cases, clash, just-false, true-all_but}
use Rattle.model.proofs.Lists.{mem_only, only_mem, increasing_keep, increasing_unique}
use Rattle.model.proofs.Histories.{own_increasing}
use Rattle.decision.proofs.ConeExact.{cone_exactly, cone_increasing}
use Rattle.decision.proofs.InOrder.{Down, reverse_up, reverse_down, Sooner}
use Rattle.decision.proofs.Solutions.{Part, Solution, Below, Stands, merge, stair_of}
use Rattle.decision.proofs.ConeParts.{part-P, part-Q, P-part, Q-part}
use Rattle.decision.proofs.Fits.{fits_same, fits_correct}
use Rattle.decision.proofs.CandidateFits.{legal, soon_down, mem, of, candidate_fits}
use Rattle.decision.proofs.Climbs.{ahead_by, stands_asym, same_order, climb_of, up_increasing, climb_mem, mem_climb, climb_up, climb_preferred, stair_known, Turn, stair_down}
use Rattle.decision.proofs.SolutionFits.{solution_fits}
use Rattle.decision.proofs.FitsSolution.{fits_solution}

-- ---- a list whose parts are in the trace's order

part_less : (t : Trace) (s : ℕ → Bool) (x : ℕ) (ρ : List ℕ) → Increasing (only t s (x ∷ ρ)) → Increasing (only t s ρ)
part_less t s x ρ i = by_cases (s (thread_of t x)) (λ e. let z : Increasing (x ∷ only t s ρ) = rw e at i in z.1) (λ e. rw e at i)

part_head : (t : Trace) (s : ℕ → Bool) (x y : ℕ) (ρ : List ℕ) → Increasing (only t s (x ∷ ρ)) → s (thread_of t x) ≡ true → s (thread_of t y) ≡ true → y ∈ ρ → x < y
part_head t s x y ρ i e d n = let z : Increasing (x ∷ only t s ρ) = rw e at i in z.0 y (only_mem t s n d)

turn_up : (t : Trace) (m : ℕ) (ρ : List ℕ) → Increasing (own t m ρ) → Increasing (only t (all_but m) ρ) → Ordered (Turn t m) ρ
turn_up t m [] p q = tt
turn_up t m (x ∷ ρ) p q = (
  (λ y n e.
      by_cases (just m (thread_of t x))
      (λ d. part_head t (just m) x y ρ p d (sym e ∙ d) n)
      (λ d. part_head t (all_but m) x y ρ q (true-all_but m _ (just-false m _ d)) (true-all_but m _ (just-false m _ (sym e ∙ d))) n)),
  turn_up t m ρ (part_less t (just m) x ρ p) (part_less t (all_but m) x ρ q),
)

module _ (t : Trace) (R : List ℕ) (m : ℕ) (v : (r : ℕ) → r ∈ R → Valid t r) where
  -- ---- the two lists

  list_of : (k : ℕ) → InCone t R k → (k ∈ own t m (cone t R)) ⊎ (k ∈ only t (all_but m) (cone t R))
  list_of k x =
      by_cases (just m (thread_of t k)) (λ e. inl (P-part t R v m k (record { inside = x; list = e }))) (λ e. inr (Q-part t R v m k (record { inside = x; list = e })))

  increasing : (s : ℕ → Bool) → Increasing (only t s (cone t R))
  increasing s = increasing_keep (λ k. s (thread_of t k)) (cone t R) (cone_increasing t R)

  -- the lists of a candidate
  part_of : (τ : List ℕ) → Candidate t R m τ → (s : ℕ → Bool) → Increasing (only t s τ) → only t s τ ≡ only t s (cone t R)
  part_of τ c s i =
      increasing_unique (only t s τ) (only t s (cone t R)) i (increasing s)
      (λ k x. let y = mem_only t s k τ x in only_mem t s ((cone_exactly t R v k).1 ((c.members k).0 y.0)) y.1)
      (λ k x. let y = mem_only t s k (cone t R) x in only_mem t s ((c.members k).1 ((cone_exactly t R v k).0 y.0)) y.1)

  -- ---- a merge in the order of its staircase

  module _ (g : ℕ → ℕ) (rises : (q r : ℕ) → Part t R m false q → Part t R m false r → q < r → g q ≤ g r) where
    merge_up : Ordered (Stands t m g) (merge t R m g)
    merge_up =
        climb_up t m g (own t m (cone t R)) (only t (all_but m) (cone t R)) (λ k n. (part-P t R v m k n).list) (λ k n. (part-Q t R v m k n).list) (increasing (just m)) (increasing (all_but m))
        (λ q r i j. rises q r (part-Q t R v m q i) (part-Q t R v m r j))

    in_merge : (k : ℕ) → k ∈ merge t R m g → InCone t R k
    in_merge k n = ⊎_elim (λ i. (part-P t R v m k i).inside) (λ i. (part-Q t R v m k i).inside) (climb_mem t m g (own t m (cone t R)) (only t (all_but m) (cone t R)) k n)

    merge_in : (k : ℕ) → InCone t R k → k ∈ merge t R m g
    merge_in k x = mem_climb t m g (own t m (cone t R)) (only t (all_but m) (cone t R)) k (list_of k x)

    -- it is a candidate where it is correct
    pub merge_candidate : ((r : ℕ) → r ∈ R → ¬ InCone t R r) → Correct t (merge t R m g) → Candidate t R m (merge t R m g)
    merge_candidate out c = record { roots_out = out; correct = c; members = λ k. (in_merge k, merge_in k); order = up_increasing t m g (merge t R m g) merge_up }

  -- ---- the lower of two staircases gives the preferred merge

  pub lower_preferred : (g h : ℕ → ℕ) → Below t R m g h → (merge t R m g ≡ merge t R m h) ⊎ Preferred t m (merge t R m g) (merge t R m h)
  lower_preferred g h le =
      climb_preferred t m g h (own t m (cone t R)) (only t (all_but m) (cone t R)) (λ k n. (part-P t R v m k n).list) (λ k n. (part-Q t R v m k n).list) (λ q n. le q (part-Q t R v m q n))

  module _ (w : WellFormed t) where
    -- ---- the merge by a solution is correct

    -- two events of one thread stand in the trace's order
    in_turn : (g : ℕ → ℕ) (j k : ℕ) → InCone t R j → InCone t R k → Earlier t j k → Stands t m g j k
    in_turn g j k x y e =
        let d : just m (thread_of t j) ≡ just m (thread_of t k) = ap (just m) e.thread in
        ahead_by g (just m (thread_of t j)) (just m (thread_of t k)) j k (λ z. e.less) (λ a b. clash (sym d ∙ a) b) (λ a b. clash b (sym d ∙ a))

    pub solution_correct : (g : ℕ → ℕ) → Solution t R m g → Correct t (merge t R m g)
    solution_correct g s =
        let up = s.lower.rises in
        fits_correct t R v w (Stands t m g) (stands_asym g t m) (in_turn g) (solution_fits t R m v w g s) (merge t R m g) (merge_up g up) (in_merge g up) (merge_in g up)

    -- ---- a candidate's staircase is a solution, and the candidate is the merge by it

    module _ (ρ : List ℕ) (c : Candidate t R m ρ) where
      abbrev g : ℕ → ℕ
      g q = stair_of t m ρ q

      abbrev S : ℕ → ℕ → Type 0
      S = Sooner (reverse ρ)

      down : Down (Stands t m g) (reverse ρ)
      down =
          stair_down t m (reverse ρ) (legal t R m w ρ c)
          (reverse_down (Turn t m) ρ (turn_up t m ρ (own_increasing t m ρ c.correct) c.order))

      up : Ordered (Stands t m g) ρ
      up = reverse_up (Stands t m g) ρ down

      to : (j k : ℕ) → InCone t R j → InCone t R k → S j k → Stands t m g j k
      to j k x y l =
          same_order (Stands t m g) S (λ a b p q. let n : ⊥ = omega arith in n) (reverse ρ) down (soon_down t R m w ρ c) j k (mem t R m w ρ c j x) (mem t R m w ρ c k y) l

      from : (j k : ℕ) → InCone t R j → InCone t R k → Stands t m g j k → S j k
      from j k x y l =
          same_order S (Stands t m g) (stands_asym g t m) (reverse ρ) (soon_down t R m w ρ c) down j k (mem t R m w ρ c j x) (mem t R m w ρ c k y) l

      rising : (q r : ℕ) → Part t R m false q → Part t R m false r → q < r → g q ≤ g r
      rising q r x y l =
          ⊎_elim
          (λ z. let e : g q ≡ 0 = z in omega arith)
          (λ z.
          let i = of t R m w ρ c (g q) z.0 in
          let a : S (g q) q = from (g q) q i x.inside (rw (z.1, x.list) (let n : g q ≤ g q = omega arith in n)) in
          let b : S q r = from q r x.inside y.inside (rw (x.list, y.list) l) in
          let d : Stands t m g (g q) r = to (g q) r i y.inside (omega arith) in
          rw (z.1, y.list) at d)
          (stair_known t m (reverse ρ) q)

      pub candidate_solution : Solution t R m (stair_of t m ρ)
      candidate_solution = fits_solution t R m v g (fits_same t R S (Stands t m g) to from (candidate_fits t R m w ρ c)) rising

      pub candidate_merge : merge t R m (stair_of t m ρ) ≡ ρ
      candidate_merge =
          let p = part_of ρ c (just m) (own_increasing t m ρ c.correct) in
          let q = part_of ρ c (all_but m) c.order in
          rw (← p, ← q) (climb_of t m g ρ up)
