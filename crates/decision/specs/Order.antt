-- The executable decision on answers in order: which come after some numbers, and which is the first.
use Rattle.std.specs.Prelude.{ℕ, Bool, false, cond, ◌&&◌, ◌||◌, List, [], ◌∷◌, eqb, ltb}
use Rattle.std.proofs.Math.Option.{Option, none, some}

unfoldable pub is_after : List ℕ → List ℕ → Bool
is_after [] y = false
is_after (a ∷ x) [] = false
is_after (a ∷ x) (b ∷ y) = ltb a b || (eqb a b && is_after x y)

-- the answers of a list from the first that comes after the numbers k on
abbrev pub rest_after : {A : Type 0} → (A → List ℕ) → List ℕ → List A → List A
rest_after of k [] = []
rest_after of k (x ∷ l) = cond (is_after k (of x)) (x ∷ l) (rest_after of k l)

-- the first of them
abbrev pub first_after : {A : Type 0} → (A → List ℕ) → List ℕ → List A → Option A
first_after of k [] = none
first_after of k (x ∷ l) = cond (is_after k (of x)) (some x) (first_after of k l)
