-- The verdict on a pair, with its witness in a lent list.
use Rattle.std.specs.Prelude.{ℕ, ◌≤◌, ◌≡◌, Option as RustOption, None, Some, List, length}
use Rattle.std.proofs.Math.Option.{Option, none, some}
use Rattle.model.specs.Lists.{in_front}
use Rattle.table.specs.declared.judged.Table.{Table}
use Rattle.table.specs.Judged.{events}

-- the answer by the witness, if there is one: its length
abbrev pub witnessed : Option (List ℕ) → RustOption ℕ
witnessed none = None
witnessed (some ρ) = Some (length ρ)

-- the lent list after it
abbrev pub list_with : Option (List ℕ) → List ℕ → List ℕ
list_with none list = list
list_with (some ρ) list = in_front ρ list

-- a judged recording's table, and what is lent for its witnesses: a list with room for any
pub record WitnessRoom (table : Table) (list : List ℕ) : Type 0 where
  pub room : length (events table) ≤ length list

-- the answer by the witness o, if there is one: its length, and the lent list with the witness in its front
pub record Shows (o : Option (List ℕ)) (list list' : List ℕ) (r : RustOption ℕ) : Type 0 where
  pub says : r ≡ witnessed o
  pub wrote : list' ≡ list_with o list
