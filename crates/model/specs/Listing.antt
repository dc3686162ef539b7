-- Answers in order, and the races of a trace in question 4's order.
use Rattle.std.specs.Prelude.{ℕ, ◌<◌, ◌≡◌, ◌⊎◌, ◌↔◌}
use mathlib.Core.List.{List, [], ◌∷◌, Memᴰ}
use Rattle.model.specs.Trace.{Trace}
use Rattle.model.specs.Lists.{Ordered, pair}
use Rattle.model.specs.Race.{Conflicting, Witness}

-- ---- answers with some numbers each, as a race has two events

-- of two lists of one length the second comes after the first: by the first number, then by the second, and so on
abbrev pub After : List ℕ → List ℕ → Type 0
After [] y = ⊥
After (a ∷ x) [] = ⊥
After (a ∷ x) (b ∷ y) = (a < b) ⊎ ((a ≡ b) × After x y)

-- each answer comes after all those in front of it
abbrev pub Sorted : {A : Type 0} → (A → List ℕ) → List A → Type 0
Sorted of l = Ordered (λ x y. After (of x) (of y)) l

-- the list has exactly the answers, in order
pub record Listing {A : Type 0} (of : A → List ℕ) (Is : A → Type 0) (l : List A) : Type 0 where
  pub members : (x : A) → Memᴰ x l ↔ Is x
  pub sorted : Sorted of l

-- x is the first answer after the numbers k
pub record FirstAfter {A : Type 0} (of : A → List ℕ) (Is : A → Type 0) (k : List ℕ) (x : A) : Type 0 where
  pub answer : Is x
  pub later : After k (of x)
  pub least : (y : A) → Is y → After k (of y) → (y ≡ x) ⊎ After (of x) (of y)

-- ---- races

-- a reported pair and the reordering shown for it
pub record Race : Type 0 where
  pub lower : ℕ
  pub higher : ℕ
  pub witness : List ℕ

-- its two events: races come by the lower, then by the higher
abbrev pub pair_of : Race → List ℕ
pair_of x = pair x.lower x.higher

-- it is a race of the trace
pub record RaceOf (t : Trace) (x : Race) : Type 0 where
  pub conflicting : Conflicting t x.lower x.higher
  pub shown : Witness t x.lower x.higher x.witness
