-- The room that a line needs in a lent buffer.
use Rattle.std.specs.Prelude.{ℕ, ◌+◌, ◌*◌, ◌≤◌, List, length}
use Rattle.model.specs.Good.{max_events}
use Rattle.appending.specs.Decimal.{event_width}

-- the most bytes of the line of a race as far as its witness: `race`, two numbers, ` witness`
abbrev pub head_width : ℕ
head_width = 12 + 2 * event_width

-- no line is longer than that of a race whose witness has a number for each event
abbrev pub line_bytes : ℕ
line_bytes = head_width + event_width * max_events + 1

-- the buffer has room for a line behind its first `at` bytes
abbrev pub Room : ℕ → List ℕ → Type 0
Room at out = at + line_bytes ≤ length out

-- room for the line of a race with its witness
pub record RaceRoom (at : ℕ) (witness out : List ℕ) : Type 0 where
  pub room : Room at out
  pub few : length witness ≤ max_events
