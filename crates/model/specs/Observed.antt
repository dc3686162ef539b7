-- Observed write.
use Rattle.std.specs.Prelude.{ℕ, ◌≤◌, ◌<◌, ◌≡◌, ◌≢◌, List}
use Rattle.model.specs.Trace.{Trace, write, kind_of, object_of, does}
use Rattle.model.specs.Lists.{before, nearest}

-- the last write of cell x in a history; 0 where there is none
abbrev pub last_write : Trace → ℕ → List ℕ → ℕ
last_write t x h = nearest (λ k. does t write x k) h

-- observed write of the read k: the last write of its cell before it in the trace, by any thread; 0 where it sees the start
unfoldable pub observed : Trace → ℕ → ℕ
observed t k = last_write t (object_of t k) (before k)

-- ---- the last write of any cell, in words. The observed write of a read is that of its own cell

-- no event after j and before k writes cell x
abbrev pub Unwritten : Trace → ℕ → ℕ → ℕ → Type 0
Unwritten t x j k = (i : ℕ) → j < i → i < k → kind_of t i ≡ write → object_of t i ≢ x

-- w is a write of cell x before event k, and no write of that cell stands between them
pub record LastBefore (t : Trace) (x k w : ℕ) : Type 0 where
  pub positive : 1 ≤ w
  pub earlier : w < k
  pub writes : kind_of t w ≡ write
  pub cell : object_of t w ≡ x
  pub last : Unwritten t x w k
