-- Refusals and faults as rows, in the paper's order: each with its number, what goes with it, and its case.
-- What is answered is the first row whose case it is.
use Rattle.std.specs.Prelude.{ℕ, zero, suc, ◌≡◌, ◌⊎◌, ◌↔◌, Bool, true, cond, List, [], ◌∷◌, ◌++◌}
use Rattle.std.proofs.Math.Option.{Option, none, some}

-- what goes with a number: nothing, or the number of an event
pub data About : Type 0 where
  nothing : About
  event : ℕ → About

pub record Answer : Type 0 where
  pub number : ℕ
  pub about : About

pub record Row : Type 1 where
  pub answer : Answer
  pub case : Type 0

abbrev pub row : ℕ → About → Type 0 → Row
row n a c = record { answer = record { number = n; about = a }; case = c }

-- a number alone, and none for 0
abbrev pub alone : ℕ → Answer
alone n = record { number = n; about = nothing }

abbrev pub numbered : ℕ → Option Answer
numbered zero = none
numbered (suc n) = some (alone (suc n))

-- the rows' answer: the first whose case it is, where those before it are not the case; none where no row is
abbrev pub First : List Row → Option Answer → Type 0
First [] o = o ≡ none
First (r ∷ l) o = (r.case × (o ≡ some r.answer)) ⊎ (¬ r.case × First l o)

-- no row is the case
abbrev pub Quiet : List Row → Type 0
Quiet [] = Unit {0}
Quiet (r ∷ l) = ¬ r.case × Quiet l

-- rows for each number of a list, one after the other
abbrev pub rows_of : (ℕ → List Row) → List ℕ → List Row
rows_of f [] = []
rows_of f (k ∷ l) = f k ++ rows_of f l

-- ---- computed: a test for each row, and what is answered where it is the first that is true

module _ {A : Type 0} where
  abbrev pub first : List Bool → List A → Option A
  first [] r = none
  first (b ∷ l) [] = none
  first (b ∷ l) (x ∷ r) = cond b (some x) (first l r)

  abbrev pub either : Option A → Option A → Option A
  either none o = o
  either (some x) o = some x

  -- the answer as the rows have it
  abbrev pub said : (A → Answer) → Option A → Option Answer
  said f none = none
  said f (some x) = some (f x)

abbrev pub or_zero : Option ℕ → ℕ
or_zero none = 0
or_zero (some n) = n

-- each test is true exactly in its row's case
abbrev pub Tested : List Bool → List Row → Type 0
Tested [] [] = Unit {0}
Tested [] (r ∷ l) = ⊥
Tested (b ∷ m) [] = ⊥
Tested (b ∷ m) (r ∷ l) = ((b ≡ true) ↔ r.case) × Tested m l
