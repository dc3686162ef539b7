-- The events up to the tops in two lists: those of the moved thread m, and the others'.
use Rattle.std.specs.Prelude.{ℕ, ◌+◌, ◌≤◌, ◌<◌, ◌≡◌, Bool, ◌&&◌, List, reverse, length, get_or, take, drop, leb}
use Rattle.model.specs.Trace.{Trace, thread_of}
use Rattle.model.specs.Lists.{up_to, before, keep, only, own, all_but}
use Rattle.model.specs.Good.{max_thread}
use Rattle.table.specs.declared.judged.Table.{Table}
use Rattle.table.specs.Judged.{events}
use Rattle.cone.specs.Tops.{Topped}

-- event k is up to the top of its thread
unfoldable pub is_under : Trace → List ℕ → ℕ → Bool
is_under t tops k = leb k (get_or tops (thread_of t k) 0)

-- these events, in the trace's order
unfoldable pub under : Trace → List ℕ → List ℕ
under t tops = reverse (keep (is_under t tops) (up_to (length t)))

-- a judged recording's table, the tops of its threads, one of these, and room for a list of events
pub record Splits (s : Table) (tops : List ℕ) (m : ℕ) (out : List ℕ) : Type 0 where
  pub topped : Topped (events s) tops
  pub thread : m ≤ max_thread
  pub room : length (events s) ≤ length out

-- thread m's are the places of out from r on
pub record Moved (t : Trace) (m : ℕ) (tops : List ℕ) (r : ℕ) (out : List ℕ) : Type 0 where
  pub low : r ≤ length out
  pub is : drop r out ≡ own t m (under t tops)

-- the others' are the first r places of out
pub record Others (t : Trace) (m : ℕ) (tops : List ℕ) (r : ℕ) (out : List ℕ) : Type 0 where
  pub few : r ≤ length t
  pub is : take r out ≡ only t (all_but m) (under t tops)

-- ---- the way to them

-- event k is up to the top of its thread, one of a set
unfoldable pub is_of : Trace → (ℕ → Bool) → List ℕ → ℕ → Bool
is_of t s tops k = s (thread_of t k) && is_under t tops k

-- an event, room for it, and in the first r places of out the others' before it
pub record Putting (t : Trace) (m : ℕ) (tops : List ℕ) (k r : ℕ) (out : List ℕ) : Type 0 where
  pub room : length t ≤ length out
  pub low : k ≤ length t + 1
  pub few : r < k
  pub is : take r out ≡ reverse (keep (is_of t (all_but m) tops) (before k))

-- event k is the highest top of the threads before thread n: none of these is above it, and it is no higher than need be
pub record Highest (tops : List ℕ) (n k : ℕ) : Type 0 where
  pub above : (c : ℕ) → c < n → get_or tops c 0 ≤ k
  pub least : (b : ℕ) → ((c : ℕ) → get_or tops c 0 ≤ b) → k ≤ b
