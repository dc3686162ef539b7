-- What reading the input gives: how many bytes were read, or that a read failed.
use Rattle.std.specs.Prelude.{ℕ, ◌≤◌, ◌<◌, List, length, take, Option, Result, Ok, Err}
use Rattle.std.specs.Io.KnownBytes.{Consumes, IsAtEnd}

module _ {E : Type 0} where
  -- no more bytes were read than the buffer has
  unfoldable pub Within : Result ℕ E → List ℕ → Type 0
  Within (Err e) s = Unit {0}
  Within (Ok n) s = n ≤ length s

  -- where it is known what a reader had left and has left now: the bytes in front of the buffer are those between the two, and none is left where they do not fill it
  unfoldable pub Gives : Result ℕ E → Option (List ℕ) → Option (List ℕ) → List ℕ → Type 0
  Gives (Err e) old new s = Unit {0}
  Gives (Ok n) old new s = Consumes old new (take n s) × (n < length s → IsAtEnd new)
