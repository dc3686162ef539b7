-- A mask is a set of small numbers: bit x says whether x is in it.
use Rattle.std.specs.Prelude.{ℕ, ◌/◌, ◌%◌, ◌^◌, Bool, eqb}
use Rattle.std.specs.Int.Bits.{bit_or}

abbrev pub bit : ℕ → ℕ → ℕ
bit m x = m / 2 ^ x % 2

-- x is in the mask
unfoldable pub holds : ℕ → ℕ → Bool
holds m x = eqb (bit m x) 1

-- the mask with x in it too
unfoldable pub including : ℕ → ℕ → ℕ
including m x = bit_or m (2 ^ x)
