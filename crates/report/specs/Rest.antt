-- What is left of a report from a position on, line by line, and as many of these lines as surely fit in a buffer.
use Rattle.std.specs.Prelude.{ℕ, ◌+◌, ◌-◌, ◌*◌, cond, List, [], ◌∷◌, ◌++◌, length, eqb, ltb}
use Rattle.std.proofs.Math.Option.{Option, none, some}
use Rattle.model.specs.Good.{max_events}
use Rattle.model.specs.Trace.{Trace}
use Rattle.model.specs.Lists.{pair}
use Rattle.model.specs.Listing.{Race, pair_of}
use Rattle.decision.specs.Order.{rest_after}
use Rattle.decision.specs.Decision.{races}
use Rattle.limits.specs.declared.Refusal.{Refusal}
use Rattle.judging.specs.Judged.{events_of, refusal_of}
use Rattle.lines.specs.Lines.{race_line, races_line, refused_line}
use Rattle.lines.specs.Room.{line_bytes}
use Rattle.report.specs.Report.{first_line}
use Rattle.report.specs.declared.Position.{Position}

-- a line of a report, and the position behind it; behind the last line there is none
pub record Line : Type 0 where
  pub bytes : List ℕ
  pub behind : Option Position

-- the bytes of some lines
abbrev pub joined : List Line → List ℕ
joined [] = []
joined (x ∷ l) = x.bytes ++ joined l

-- the lines from a position on, by those of each position; there are none where there is no position
abbrev pub after : (Position → List Line) → Option Position → List Line
after from none = []
after from (some p) = from p

-- ---- of a good file

-- no recording has more races than this: pairs of events
abbrev pub max_races : ℕ
max_races = max_events * max_events

-- the position in front of the first line
abbrev pub at_start : Position
at_start = record { next = 0; lower = 0; higher = 0; count = 0 }

-- the position behind the first line, in front of the race that comes after those numbers
abbrev pub behind_first : Position → Position
behind_first p = record { next = 1; lower = p.lower; higher = p.higher; count = p.count }

-- the position behind a race, the k-th
abbrev pub behind_race : Race → ℕ → Position
behind_race x k = record { next = 1; lower = x.lower; higher = x.higher; count = k }

-- a line for each race, k having been written before, and the last line: how many they are
abbrev pub counted_lines : ℕ → List Race → List Line
counted_lines k [] = record { bytes = races_line k; behind = none } ∷ []
counted_lines k (x ∷ l) = record { bytes = race_line x.lower x.higher x.witness; behind = some (behind_race x (k + 1)) } ∷ counted_lines (k + 1) l

-- the races of a trace that are still to come at a position
unfoldable pub races_left : Trace → Position → List Race
races_left t p = rest_after pair_of (pair p.lower p.higher) (races t)

-- the lines from a position on, without the first
unfoldable pub races_from : Trace → Position → List Line
races_from t p = counted_lines p.count (races_left t p)

-- the lines from a position on
unfoldable pub lines_from : Trace → Position → List Line
lines_from t p = cond (eqb p.next 0) (record { bytes = first_line t; behind = some (behind_first p) } ∷ races_from t p) (races_from t p)

-- ---- of any file

-- a refused file has one line
abbrev pub lines_by : Option Refusal → Trace → Position → List Line
lines_by (some r) t p = record { bytes = refused_line r; behind = none } ∷ []
lines_by none t p = lines_from t p

-- the lines of a file's report from a position on
unfoldable pub lines_at : List ℕ → Position → List Line
lines_at s p = lines_by (refusal_of s) (events_of s) p

-- ---- in a buffer

-- as many lines as surely fit in so many bytes: after each, the next one only where any line would fit. Their bytes, and the position behind them
abbrev pub fill : ℕ → List Line → List ℕ × Option Position
fill room [] = ([], none)
fill room (x ∷ l) =
    let left = room - length x.bytes in
    let more = fill left l in
    cond (ltb left line_bytes) (x.bytes, x.behind) (x.bytes ++ more.0, more.1)
