-- The nightly report of a file's bytes.
use Rattle.std.specs.Prelude.{ℕ, List, [], ◌∷◌, ◌++◌, length}
use Rattle.std.proofs.Math.Option.{Option, none, some}
use Rattle.model.specs.Trace.{Trace}
use Rattle.model.specs.Lists.{threads}
use Rattle.model.specs.Listing.{Race}
use Rattle.decision.specs.Decision.{races}
use Rattle.limits.specs.declared.Refusal.{Refusal}
use Rattle.judging.specs.Judged.{events_of, refusal_of}
use Rattle.lines.specs.Lines.{events_line, race_line, races_line, refused_line}

-- the first line of the report of a good file: how many events and threads it has
abbrev pub first_line : Trace → List ℕ
first_line t = events_line (length t) (length (threads t))

-- a line for each race
abbrev pub race_lines : List Race → List ℕ
race_lines [] = []
race_lines (x ∷ l) = race_line x.lower x.higher x.witness ++ race_lines l

-- by the file's refusal, if there is one, and its events: the line of the refusal; or the numbers of events and threads, the races in
-- question 4's order, and how many they are
abbrev pub report_by : Option Refusal → Trace → List ℕ
report_by (some r) t = refused_line r
report_by none t = first_line t ++ (race_lines (races t) ++ races_line (length (races t)))

-- the report of a file
unfoldable pub report : List ℕ → List ℕ
report s = report_by (refusal_of s) (events_of s)
