-- The least staircase of two lists, by tables of numbers. P are events of the moved thread m and Q events of the others, each in the trace's order.
-- A staircase is a number for each event of Q: the events of P up to it stand before that event.
use Rattle.std.specs.Prelude.{ℕ, suc, ◌+◌, ◌*◌, ◌≤◌, ◌<◌, ◌≡◌, ◌≢◌, cond, List, length, get_or, eqb}
use Rattle.model.specs.Trace.{Trace, Valid, acquire, thread_of, kind_of, object_of}
use Rattle.model.specs.Lists.{◌∈◌}
use Rattle.model.specs.Good.{max_object}
use Rattle.model.specs.Race.{Increasing}
use Rattle.table.specs.declared.judged.Table.{Table}
use Rattle.table.specs.Judged.{events}
use Rattle.table.specs.Links.{began}

abbrev pub at : List ℕ → ℕ → ℕ
at l k = get_or l k 0

-- the slot of the interval that an event begins: its cell or, behind the cells, its lock
unfoldable pub slot_of : Trace → ℕ → ℕ
slot_of t k = cond (eqb (kind_of t k) acquire) (suc max_object + object_of t k) (object_of t k)

-- the slots
abbrev pub slots : ℕ
slots = 2 * suc max_object

-- event k is in an interval that begins outside thread m
pub record InOthers (t : Trace) (m k : ℕ) : Type 0 where
  pub begins : began t k ≢ 0
  pub thread : thread_of t (began t k) ≢ m

-- The rule of event k of Q, where it is in an interval of Q: an interval of P on that slot which begins before k ends before that interval begins.
-- `ends` has, for an event of P that begins an interval, the last event of that in P; 0 for every other.
abbrev pub Rule : Trace → ℕ → List ℕ → List ℕ → (ℕ → ℕ) → ℕ → Type 0
Rule t m P ends g k = InOthers t m k → (v : ℕ) → v ∈ P → 0 < at ends v → slot_of t v ≡ slot_of t (began t k) → v ≤ g k → at ends v ≤ g (began t k)

-- a staircase that is nowhere below `low` and keeps every rule
pub record Solution (t : Trace) (m : ℕ) (P Q ends low : List ℕ) (g : ℕ → ℕ) : Type 0 where
  pub climbs : (j k : ℕ) → j ∈ Q → k ∈ Q → j < k → g j ≤ g k
  pub above : (k : ℕ) → k ∈ Q → at low k ≤ g k
  pub apart : (k : ℕ) → k ∈ Q → Rule t m P ends g k

-- the least of them, as a list by event
pub record Least (t : Trace) (m : ℕ) (P Q ends low l : List ℕ) : Type 0 where
  pub solution : Solution t m P Q ends low (at l)
  pub least : (g : ℕ → ℕ) → Solution t m P Q ends low g → (k : ℕ) → k ∈ Q → at l k ≤ g k

-- two lists of a trace's events, each in the trace's order; where an event of Q is in an interval that begins outside thread m, that begins in Q, and no later
pub record Lists (t : Trace) (m : ℕ) (P Q : List ℕ) : Type 0 where
  pub moved : (k : ℕ) → k ∈ P → Valid t k
  pub moved_up : Increasing P
  pub others : (k : ℕ) → k ∈ Q → Valid t k
  pub others_up : Increasing Q
  pub begun : (k : ℕ) → k ∈ Q → InOthers t m k → (began t k ∈ Q) × (began t k ≤ k)

-- two lists of a judged recording's events, and tables by event
pub record Ready (s : Table) (m : ℕ) (P Q ends need : List ℕ) : Type 0 where
  pub lists : Lists (events s) m P Q
  pub ends_room : length (events s) < length ends
  pub need_room : length (events s) < length need

-- what is needed at least has become the least staircase
pub record Solved (t : Trace) (m : ℕ) (P Q ends need need' : List ℕ) : Type 0 where
  pub same : length need' ≡ length need
  pub least : Least t m P Q ends need need'
