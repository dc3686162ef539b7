-- What the functions that write lines go by, and what they leave. Each writes behind the first `at` bytes of a lent buffer, or into its front.
use Rattle.std.specs.Prelude.{ℕ, ◌+◌, ◌<◌, ◌≡◌, Option as RustOption, None, Some, List, ◌∷◌, length}
use Rattle.std.proofs.Math.Option.{Option, none, some}
use Rattle.model.specs.Trace.{Trace}
use Rattle.model.specs.Good.{max_events}
use Rattle.table.specs.declared.judged.Table.{Table}
use Rattle.table.specs.Judged.{events}
use Rattle.races.specs.Witness.{WitnessRoom}
use Rattle.appending.specs.Appended.{Appends}
use Rattle.lines.specs.Room.{Room}
use Rattle.report.specs.Rest.{Line, after, races_left, lines_from, fill}
use Rattle.report.specs.Places.{place_of}
use Rattle.report.specs.declared.Position.{Position}
use Rattle.report.specs.declared.Progress.{Progress}

-- the races before a position and those to come can be counted in 32 bits
unfoldable pub Countable : Trace → Position → Type 0
Countable t p = p.count + length (races_left t p) < 4294967296

-- a judged recording's table, a position in its report, and room for a line
pub record Starting (table : Table) (p : Position) (out : List ℕ) : Type 0 where
  pub countable : Countable (events table) p
  pub room : Room 0 out

-- what writing goes by: a judged recording's table and what is lent for its witnesses, the list with as many entries as a trace may have events;
-- a position, and room for a line
pub record Writing (table : Table) (p : Position) (list : List ℕ) (at : ℕ) (out : List ℕ) : Type 0 where
  pub lent : WitnessRoom table list
  pub entries : length list ≡ max_events
  pub countable : Countable (events table) p
  pub room : Room at out

-- the bytes in use after an answer
abbrev pub bytes_of : Progress → ℕ
bytes_of w = w.bytes

-- the position to go on from, if there is one
abbrev pub position_in : RustOption Position → Option Position
position_in None = none
position_in (Some p) = some p

abbrev pub next_of : Progress → Option Position
next_of w = position_in w.next

-- as they are handed out: how many bytes, and the place
abbrev pub placed : Progress → ℕ × List ℕ
placed w = (bytes_of w, place_of (next_of w))

-- what holds of that position, if there is one
abbrev pub OnNext : (Position → Type 0) → Option Position → Type 0
OnNext Is none = Unit {0}
OnNext Is (some p) = Is p

-- the first of the lines l was written, and the list is as long
pub record Advances (t : Trace) (l : List Line) (list list' : List ℕ) (at : ℕ) (out out' : List ℕ) (w : Progress) : Type 0 where
  pub line : List ℕ
  pub first : l ≡ record { bytes = line; behind = next_of w } ∷ after (lines_from t) (next_of w)
  pub puts : Appends line at out out' (bytes_of w)
  pub countable : OnNext (Countable t) (next_of w)
  pub list_long : length list' ≡ length list

-- as many of the lines l as surely fit stand in the front of the buffer
pub record Writes (l : List Line) (out out' : List ℕ) (w : Progress) : Type 0 where
  pub puts : Appends (fill (length out) l).0 0 out out' (bytes_of w)
  pub stops : next_of w ≡ (fill (length out) l).1

-- and fewer lines are left; the list is as long
pub record Fills (t : Trace) (p : Position) (list list' out out' : List ℕ) (w : Progress) : Type 0 where
  pub writes : Writes (lines_from t p) out out' w
  pub fewer : length (after (lines_from t) (next_of w)) < length (lines_from t p)
  pub countable : OnNext (Countable t) (next_of w)
  pub list_long : length list' ≡ length list
