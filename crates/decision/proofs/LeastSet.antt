-- As many rounds as there are numbers come to the least set that has all that a step gives from it, for any step that gives no less from more.
use Prim.Native.Nat.{ℕ, zero, suc, ◌≤◌, ◌<◌, zero-le}
use native.Mathlib.Omega.{arith}
use mathlib.Core.Path.{◌≡◌, refl, ap}
use mathlib.Core.Logic.{◌⊎◌, inl, inr, ⊎_elim}
use mathlib.Core.Bool.{Bool, true}
use mathlib.Core.List.Memᴰ
use mathlib.Core.List.{List, [], ◌∷◌}
use lib.ListN.{length}
use Rattle.model.specs.Lists.{◌∈◌, keep, up_to}
use Rattle.decision.specs.Rounds.{rounds}
use Rattle.model.proofs.Tests.{by_cases}
use Rattle.model.proofs.Lists.{mem_keep, keep_mem, mem_up_to, up_to_mem}

-- a wider test keeps the same members, or more
grow : (p q : ℕ → Bool) (l : List ℕ) → ((k : ℕ) → p k ≡ true → q k ≡ true) → (keep p l ≡ keep q l) ⊎ (length (keep p l) < length (keep q l))
grow p q [] f = inl refl
grow p q (k ∷ l) f =
    let ih = grow p q l f in
    by_cases (p k)
    (λ e. rw (e, f k e) (⊎_elim (λ d. inl (ap (λ (r : List ℕ). k ∷ r) d)) (λ z. inr (omega arith)) ih))
    (λ e.
    by_cases (q k)
    (λ g. rw (e, g) (inr (⊎_elim (λ d. let z : length (keep p l) ≡ length (keep q l) = ap length d in omega arith) (λ z. omega arith) ih)))
    (λ g. rw (e, g) ih))

pub length-keep : (p : ℕ → Bool) (n : ℕ) → length (keep p (up_to n)) ≤ n
length-keep p zero = zero-le
length-keep p (suc n) = let ih = length-keep p n in by_cases (p (suc n)) (λ e. rw e (omega arith)) (λ e. rw e (omega arith))

-- from more comes no less
abbrev pub Monotone : (List ℕ → ℕ → Bool) → Type 0
Monotone step = (l r : List ℕ) → ((k : ℕ) → k ∈ l → k ∈ r) → (k : ℕ) → step l k ≡ true → step r k ≡ true

module _ (n : ℕ) (step : List ℕ → ℕ → Bool) (mono : Monotone step) where
  abbrev S : ℕ → List ℕ
  S f = rounds n step f

  -- a round loses nothing
  more : (f k : ℕ) → k ∈ S f → k ∈ S (suc f)
  unfolding rounds
  more zero k m = absurd (Memᴰ.not-nil m)
  more (suc f) k m = let x = mem_keep (step (S f)) k (up_to n) m in keep_mem (step (S (suc f))) x.0 (mono (S f) (S (suc f)) (more f) k x.1)

  -- a round changes nothing, or so many numbers are there
  stops_or_grows : (f : ℕ) → (S f ≡ S (suc f)) ⊎ (f < length (S (suc f)))
  unfolding rounds
  stops_or_grows zero = go (S (suc zero))
    where
      go : (l : List ℕ) → ([] ≡ l) ⊎ (0 < length l)
      go [] = inl refl
      go (k ∷ l) = inr (omega arith)
  stops_or_grows (suc f) =
      ⊎_elim
      (λ e. inl (ap (λ (l : List ℕ). keep (step l) (up_to n)) e))
      (λ p. ⊎_elim (λ e. inl e) (λ z. inr (omega arith)) (grow (step (S f)) (step (S (suc f))) (up_to n) (mono (S f) (S (suc f)) (more f))))
      (stops_or_grows f)

  pub rounds_fixed : S n ≡ keep (step (S n)) (up_to n)
  unfolding rounds
  rounds_fixed = ⊎_elim (λ e. e) (λ p. let z = length-keep (step (S n)) n in absurd (omega arith)) (stops_or_grows n)

  -- it has all that the step gives from it
  pub least_step : (k : ℕ) → 1 ≤ k → k ≤ n → step (S n) k ≡ true → k ∈ S n
  least_step k p q e = rw rounds_fixed (keep_mem (step (S n)) (up_to_mem n k p q) e)

  -- and is in every such set
  module _ (G : ℕ → Type 0) (closed : (l : List ℕ) → ((j : ℕ) → j ∈ l → G j) → (k : ℕ) → 1 ≤ k → step l k ≡ true → G k) where
    pub least_in : (f k : ℕ) → k ∈ S f → G k
    unfolding rounds
    least_in zero k m = absurd (Memᴰ.not-nil m)
    least_in (suc f) k m = let x = mem_keep (step (S f)) k (up_to n) m in closed (S f) (least_in f) k (mem_up_to n k x.0).0 x.1
