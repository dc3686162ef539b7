-- What a function that puts bytes behind those in use leaves: they stand there, and every byte after them is as it was.
use Rattle.std.specs.Prelude.{ℕ, ◌+◌, ◌≤◌, ◌≡◌, List, ◌++◌, length, take, drop}

-- the bytes `put` were put behind the first `at` bytes of out; r bytes are in use then
pub record Appends (put : List ℕ) (at : ℕ) (out out' : List ℕ) (r : ℕ) : Type 0 where
  pub front : take r out' ≡ take at out ++ put
  pub rest : drop r out' ≡ drop r out
  pub ends : r ≡ at + length put
  pub within : r ≤ length out
  pub same : length out' ≡ length out

-- the same, and at most `most` bytes were put
pub record AppendsShort (most : ℕ) (put : List ℕ) (at : ℕ) (out out' : List ℕ) (r : ℕ) : Type 0 where
  pub appends : Appends put at out out' r
  pub short : r ≤ at + most
