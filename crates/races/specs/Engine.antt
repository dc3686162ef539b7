-- The way to a witness: the two lists of a cone, their merge by the least staircase, and its check.
use Rattle.std.specs.Prelude.{ℕ, ◌+◌, ◌≤◌, cond, List, length}
use Rattle.std.proofs.Math.Option.{Option, none, some}
use Rattle.model.specs.Trace.{Trace}
use Rattle.model.specs.Lists.{own, only, all_but}
use Rattle.model.specs.Race.{Apart}
use Rattle.decision.specs.Check.{is_correct}
use Rattle.decision.specs.Stairs.{least_merge}
use Rattle.table.specs.declared.judged.Table.{Table}
use Rattle.table.specs.Judged.{events}
use Rattle.cone.specs.Tops.{Tops}
use Rattle.cone.specs.Split.{under}
use Rattle.bounds.specs.Parts.{Parts}
use Rattle.bounds.specs.Bounds.{Covers}

-- a list, where it is a correct reordering
unfoldable pub if_correct : Trace → List ℕ → Option (List ℕ)
if_correct t ρ = cond (is_correct t ρ) (some ρ) none

-- the merge of the events up to the tops, with thread m as the moved thread
unfoldable pub shown_of : Trace → ℕ → List ℕ → Option (List ℕ)
shown_of t m tops = if_correct t (least_merge t (own t m (under t tops)) (only t (all_but m) (under t tops)))

-- the tops of a cone
pub record Coned (t : Trace) (tops : List ℕ) : Type 0 where
  pub roots : List ℕ
  pub apart : Apart t roots
  pub are : Tops t roots tops

-- the two lists of the events up to the tops
pub record Joinable (s : Table) (m : ℕ) (tops P Q : List ℕ) : Type 0 where
  pub parts : Parts (events s) m P Q
  pub covers : Covers (events s) m Q tops
  pub few : length P + length Q ≤ length (events s)

-- and room for their merge
pub record Mergeable (s : Table) (m : ℕ) (tops P Q out : List ℕ) : Type 0 where
  pub joinable : Joinable s m tops P Q
  pub room : length (events s) ≤ length out
