-- An answer as one number: its case in the lowest byte, then a number of two bytes, then another number.
use Rattle.std.specs.Prelude.{ℕ, ◌+◌, ◌*◌, ◌/◌, ◌%◌, ◌<◌, ◌≡◌}

-- a case and the two numbers that go with it
pub record Parts : Type 0 where
  pub case : ℕ
  pub first : ℕ
  pub second : ℕ

abbrev pub parts : ℕ → ℕ → ℕ → Parts
parts c x y = record { case = c; first = x; second = y }

-- as one number
unfoldable pub packed : Parts → ℕ
packed p = p.case + 256 * (p.first + 65536 * p.second)

-- what a caller reads of it
unfoldable pub unpacked : ℕ → Parts
unpacked n = parts (n % 256) (n / 256 % 65536) (n / 256 / 65536)

-- the case is a byte, the first number has two bytes
pub record Small (p : Parts) : Type 0 where
  pub case : p.case < 256
  pub first : p.first < 65536

-- an answer as its number, beside the one place or the two that are lent
module _ {A B : Type 0} (of : A → Parts) where
  abbrev pub told : A × B → ℕ × B
  told (x, b) = (packed (of x), b)

  abbrev pub told_two : {C : Type 0} → A × B × C → ℕ × B × C
  told_two (x, b, c) = (packed (of x), b, c)

-- an answer is read out of its number: `of` gives its parts, `to` the answer of parts
module _ {A : Type 0} where
  abbrev pub ReadBack : (A → Parts) → (Parts → A) → Type 0
  ReadBack of to = (x : A) → Small (of x) → to (unpacked (packed (of x))) ≡ x
