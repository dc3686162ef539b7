-- A report in buffer after buffer: from place to place.
use Rattle.std.specs.Prelude.{ℕ, ◌≤◌, ◌≡◌, Bool, cond, ◌&&◌, ◌↔◌, length, take, get_or, leb}
use Rattle.std.proofs.Math.Option.{Option, none, some}
use mathlib.Core.List.{List, [], ◌∷◌, ◌++◌, Memᴰ}
use Rattle.model.specs.Lists.{in_front}
use Rattle.lines.specs.Room.{line_bytes}
use Rattle.report.specs.Report.{report}
use Rattle.report.specs.Rest.{joined, max_races, at_start, lines_at, fill}
use Rattle.report.specs.declared.Position.{Position}

-- ---- a place: four words

-- what comes next, 0 for the first line and 1 for a race's or the last; the two numbers after which the next race comes; how many races were
-- written before
abbrev pub position_of : List ℕ → Position
position_of w = record { next = get_or w 0 0; lower = get_or w 1 0; higher = get_or w 2 0; count = get_or w 3 0 }

-- the words of a position; 2 and zeros behind the last line
abbrev pub place_of : Option Position → List ℕ
place_of none = 2 ∷ 0 ∷ 0 ∷ 0 ∷ []
place_of (some p) = p.next ∷ p.lower ∷ p.higher ∷ p.count ∷ []

-- words that are a place in a report: something comes next there, an event's number has 16 bits, and there are no more races than pairs
pub record Place (w : List ℕ) : Type 0 where
  pub next : get_or w 0 0 ≤ 1
  pub lower : get_or w 1 0 ≤ 65535
  pub higher : get_or w 2 0 ≤ 65535
  pub count : get_or w 3 0 ≤ max_races

-- are they?
abbrev pub is_place : List ℕ → Bool
is_place w = leb (get_or w 0 0) 1 && leb (get_or w 1 0) 65535 && leb (get_or w 2 0) 65535 && leb (get_or w 3 0) max_races

-- ---- an answer: how many bytes were written, the place after it, the buffer after it

-- some bytes, and the position behind them
abbrev pub answered : List ℕ × Option Position → List ℕ → ℕ × List ℕ × List ℕ
answered w out = (length w.0, place_of w.1, in_front w.0 out)

-- as many lines of the report as surely fit; or 0 where the words are no place in a report or the buffer has no room for a line, and nothing changes
unfoldable pub answer_lines : List ℕ → List ℕ → List ℕ → ℕ × List ℕ × List ℕ
answer_lines s place out = cond (is_place place && leb line_bytes (length out)) (answered (fill (length out) (lines_at s (position_of place))) out) (0, place, out)

-- ---- what is promised of answer after answer

-- what is left of a file's report at a place: nothing where nothing comes next
unfoldable pub rest_at : List ℕ → List ℕ → List ℕ
rest_at s place = cond (leb (get_or place 0 0) 1) (joined (lines_at s (position_of place))) []

-- the bytes that an answer wrote
abbrev pub wrote : ℕ × List ℕ × List ℕ → List ℕ
wrote a = take a.0 a.2

-- from place to place: at the start all of the report is left; what was left is what an answer writes, and what is left at the place after it; at
-- the end nothing is left
pub record GoesOn : Type 0 where
  pub start : (s : List ℕ) → rest_at s (place_of (some at_start)) ≡ report s
  pub on : (s place out : List ℕ) → rest_at s place ≡ wrote (answer_lines s place out) ++ rest_at s (answer_lines s place out).1
  pub end : (s : List ℕ) → rest_at s (place_of none) ≡ []

-- nothing is written exactly where the words are no place in a report or the buffer has no room for a line
abbrev pub ZeroExactly : Type 0
ZeroExactly = (s place out : List ℕ) → ((answer_lines s place out).0 ≡ 0) ↔ ¬ (Place place × (line_bytes ≤ length out))

-- what is written in buffer after buffer
abbrev pub written : List ℕ → List ℕ → List (List ℕ) → List ℕ
written s place [] = []
written s place (out ∷ l) = wrote (answer_lines s place out) ++ written s (answer_lines s place out).1 l

-- from the start on that is the report, where each buffer has room for a line and they are as many as the report has lines
abbrev pub WritesReport : Type 0
WritesReport =
    (s : List ℕ) (l : List (List ℕ)) → ((out : List ℕ) → Memᴰ out l → line_bytes ≤ length out) → length (lines_at s at_start) ≤ length l → written s (place_of (some at_start)) l ≡ report s
