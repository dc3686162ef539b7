-- The first refusal of a file: 1 to 4 and 13 by its layout, then 5 to 7, 15 to 17, 8 and 9 by its events.
use Rattle.std.specs.Prelude.{ℕ, List, [], ◌∷◌, ◌++◌}
use Rattle.std.proofs.Math.Option.{Option, none, some}
use Rattle.model.specs.Trace.{Trace}
use Rattle.model.specs.Lists.{numbers}
use Rattle.model.specs.Good.{Good}
use Rattle.model.specs.Rows.{Row, first, either}
use Rattle.model.specs.Refusals.{trace_rows}
use Rattle.decision.specs.Refusals.{event_tests}
use Rattle.limits.specs.Limits.{event_bytes}
use Rattle.limits.specs.Refusals.{event_refusals, RefusedBy}
use Rattle.format.specs.Layout.{Layout, layout_rows, layout_refusal, events}
use Rattle.limits.specs.declared.Refusal.{Refusal}

-- ---- what the answer means

-- a good file: the layout, and good events
pub record GoodFile (z : ℕ) (s : List ℕ) : Type 0 where
  pub layout : Layout z s
  pub good : Good (events z s)

-- the rows of a file: those of its layout, then those of its events
abbrev pub file_rows : ℕ → List ℕ → List Row
file_rows z s = layout_rows z s ++ trace_rows (events z s)

-- what the first refusal of a file, or that there is none, means
abbrev pub FileAnswer : ℕ → List ℕ → Option Refusal → Type 0
FileAnswer z s none = GoodFile z s
FileAnswer z s (some r) = RefusedBy (file_rows z s) r

-- ---- computed

-- of event k
unfoldable pub event_refusal : Trace → ℕ → Option Refusal
event_refusal t k = first (event_tests t k) (event_refusals k)

-- of the first event of a list that has one
unfoldable pub refusal_in : Trace → List ℕ → Option Refusal
refusal_in t [] = none
refusal_in t (k ∷ l) = either (event_refusal t k) (refusal_in t l)

-- the first refusal of a file, if there is one
unfoldable pub file_refusal : ℕ → List ℕ → Option Refusal
file_refusal z s = either (layout_refusal z s) (refusal_in (events z s) (numbers (events z s)))

-- ---- at the size that events have today: what the questions go by

abbrev pub events_of : List ℕ → Trace
events_of s = events event_bytes s

abbrev pub rows_of_file : List ℕ → List Row
rows_of_file s = file_rows event_bytes s

abbrev pub refusal_of : List ℕ → Option Refusal
refusal_of s = file_refusal event_bytes s

abbrev pub IsGoodFile : List ℕ → Type 0
IsGoodFile s = GoodFile event_bytes s
