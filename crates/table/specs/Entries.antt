-- Lists by number: a last event for each thread, a last write for each cell ..
use Rattle.std.specs.Prelude.{ℕ, ◌≤◌, ◌<◌, ◌≡◌, cond, List, length, get_or, set, eqb}
use Rattle.model.specs.Trace.{Trace, write, kind_of, object_of}

-- a list has f k at each place k from 0 to n
pub record Entries (f : ℕ → ℕ) (n : ℕ) (l : List ℕ) : Type 0 where
  pub long : n < length l
  pub is : (k : ℕ) → k ≤ n → get_or l k 0 ≡ f k

-- what event k makes of a list of last writes: a write is its cell's last
unfoldable pub with_write : Trace → ℕ → List ℕ → List ℕ
with_write t k list = cond (eqb (kind_of t k) write) (set list (object_of t k) k) list
