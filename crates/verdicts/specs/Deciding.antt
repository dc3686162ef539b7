-- What the inner functions of questions 3 and 4 go by and leave: a work area of just the bytes that are zero after an answer.
use Rattle.std.specs.Prelude.{ℕ, ◌≤◌, ◌≡◌, true, List, length, replicate, Option as RustOption}
use Rattle.std.proofs.Math.Option.{Option}
use Rattle.model.specs.Listing.{Race}
use Rattle.decision.specs.Decision.{is_conflicting}
use Rattle.limits.specs.Limits.{area_bytes}
use Rattle.table.specs.declared.judged.Table.{Table}
use Rattle.table.specs.Judged.{events}
use Rattle.races.specs.Witness.{list_with}
use Rattle.verdicts.specs.Verdict.{finding}
use Rattle.verdicts.specs.Next.{next}
use Rattle.verdicts.specs.declared.Pair.{Pair}

-- a conflicting pair of a judged recording, and a list with room for its witness
pub record Askable (table : Table) (a b : ℕ) (list : List ℕ) : Type 0 where
  pub conflicting : is_conflicting (events table) a b ≡ true
  pub room : length (events table) ≤ length list

-- the same, and a work area
pub record Decidable (table : Table) (a b : ℕ) (list area : List ℕ) : Type 0 where
  pub askable : Askable table a b list
  pub long : length area ≡ area_bytes

-- the verdict by the witness o
pub record Decides (o : Option (List ℕ)) (list list' area area' : List ℕ) (r : RustOption ℕ) : Type 0 where
  pub says : r ≡ finding o
  pub wrote : list' ≡ list_with o list
  pub zero : area' ≡ replicate (length area) 0

-- a work area of just those bytes
pub record Searchable (area : List ℕ) : Type 0 where
  pub long : length area ≡ area_bytes

-- the next race o
pub record Finds (o : Option Race) (area area' : List ℕ) (r : RustOption Pair) : Type 0 where
  pub says : r ≡ next o
  pub zero : area' ≡ replicate (length area) 0
