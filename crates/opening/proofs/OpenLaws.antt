-- The ways through the code, and what an opened file gives.
use Prim.Native.Nat.{ℕ, ◌≤◌}
use Rattle.std.specs.Prelude.{Result, Ok, Err}
use mathlib.Core.Path.{◌≡◌, refl}
use mathlib.Core.Option.{Option, none, some}
use mathlib.Core.List.{List}
use lib.ListN.{length, take}
use Rattle.model.specs.Trace.{Trace}
use Rattle.limits.specs.declared.Refusal.{Refusal}
use Rattle.limits.specs.declared.Recording.{Recording}
use Rattle.format.specs.Bytes.{trace_in}
use Rattle.format.specs.Layout.{file_of, part_of}
use Rattle.format.proofs.PartLaws.{part-trace}
use Rattle.judging.specs.Judged.{events_of, refusal_of}
use Rattle.judging.proofs.FileLaws.{judged_refused, judged_clean}
use Rattle.table.specs.Table.{trace, Linked}
use Rattle.opening.specs.Filling.{Built}
use Rattle.opening.specs.Opening.{Opens, opens_refused, opens_table}

module _ (s : List ℕ) (f : Result Recording Refusal) (is : f ≡ file_of s (refusal_of s)) where
  pub open_refused : (r : Refusal) → f ≡ Err r → (area : List ℕ) → Opens (refusal_of s) (events_of s) area area (Err r)
  open_refused r e area = opens_refused (judged_refused s f is r e) refl

  pub open_table : (t : Recording) → f ≡ Ok t → (ev : List ℕ) → ev ≡ part_of s → (area : List ℕ) {area' : List ℕ} {n : ℕ} → Built (trace_in ev) n area'
      → Opens (refusal_of s) (events_of s) area area' (Ok n)
  open_table t e ev part area b = opens_table (judged_clean s f is t e) (rw (part-trace s ev part) at b)

-- ---- for callers

-- what an answer says, by its case
abbrev Says : Option Refusal → Trace → List ℕ → Result ℕ Refusal → Type 0
Says f t area' (Err r) = f ≡ some r
Says f t area' (Ok n) = (f ≡ none) × Built t n area'

read_opening : {f : Option Refusal} {t : Trace} {area area' : List ℕ} {x : Result ℕ Refusal} → Opens f t area area' x → Says f t area' x
read_opening (opens_refused e same) = e
read_opening (opens_table e b) = (e, b)

module _ {f : Option Refusal} {t : Trace} {area area' : List ℕ} where
  pub refused_by : {r : Refusal} → Opens f t area area' (Err r) → f ≡ some r
  refused_by o = read_opening o

  module _ {n : ℕ} (o : Opens f t area area' (Ok n)) where
    pub opened_clean : f ≡ none
    opened_clean = (read_opening o).0

    opened_built : Built t n area'
    opened_built = (read_opening o).1

    pub opened_within : n ≤ length area'
    opened_within = opened_built.within

    pub opened_linked : Linked (take n area')
    opened_linked = opened_built.filled.linked

    pub opened_trace : trace (take n area') ≡ t
    opened_trace = opened_built.filled.same
