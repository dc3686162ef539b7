-- The next race after two numbers, handed out with its witness.
use Rattle.std.specs.Prelude.{ℕ, ◌<◌, ◌≡◌, cond, Option as RustOption, None, Some, List, length}
use Rattle.std.proofs.Math.Option.{Option, none, some}
use Rattle.model.specs.Trace.{Trace}
use Rattle.model.specs.Listing.{Race}
use Rattle.decision.specs.Decision.{witness, is_conflicting}
use Rattle.races.specs.Witness.{list_with}
use Rattle.races.specs.declared.Race.{Race as FoundRace}

-- the answer that hands out the race o, if there is one
abbrev pub handed_out : Option Race → RustOption FoundRace
handed_out none = None
handed_out (some x) = Some (record { lower = x.lower; higher = x.higher; length = length x.witness })

-- its witness
abbrev pub witness_in : Option Race → Option (List ℕ)
witness_in none = none
witness_in (some x) = some x.witness

-- the race, with its witness in the front of the lent list
pub record Hands (o : Option Race) (list list' : List ℕ) (r : RustOption FoundRace) : Type 0 where
  pub says : r ≡ handed_out o
  pub wrote : list' ≡ list_with (witness_in o) list

-- ---- one lower event at a time

-- the witness of any two numbers: none where they are no conflicting pair
unfoldable pub witness_of : Trace → ℕ → ℕ → Option (List ℕ)
witness_of t a b = cond (is_conflicting t a b) (witness t a b) none

-- the numbers above b and below y make no race with a
abbrev pub NoRaces : Trace → ℕ → ℕ → ℕ → Type 0
NoRaces t a b y = (z : ℕ) → b < z → z < y → witness_of t a z ≡ none

-- the first race with a as its lower event and a higher one above b
pub data FirstWith (t : Trace) (a b : ℕ) : Option Race → Type 0 where
  with_none : ((y : ℕ) → NoRaces t a b y) → FirstWith t a b none
  with_race : (y : ℕ) (ρ : List ℕ) → b < y → witness_of t a y ≡ some ρ → NoRaces t a b y → FirstWith t a b (some (record { lower = a; higher = y; witness = ρ }))

-- that race, handed out
pub record HandsWith (t : Trace) (a b : ℕ) (list list' : List ℕ) (r : RustOption FoundRace) : Type 0 where
  pub race : Option Race
  pub first : FirstWith t a b race
  pub hands : Hands race list list' r
