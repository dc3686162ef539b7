-- What an answer says of the witness, and of the race.
use Prim.Native.Nat.{ℕ}
use mathlib.Core.Path.{◌≡◌, refl}
use mathlib.Core.Option.{Option, none, some}
use mathlib.Core.List.{List}
use lib.ListN.{length}
use Rattle.std.specs.Prelude.{None, Some}
use Rattle.model.specs.Listing.{Race}
use Rattle.races.specs.Witness.{witnessed}
use Rattle.races.specs.Next.{handed_out}
use Rattle.races.specs.declared.Race.{Race as FoundRace}

pub witnessed-none : (o : Option (List ℕ)) → None ≡ witnessed o → o ≡ none
witnessed-none none e = refl
witnessed-none (some ρ) e = cc

pub witnessed-some : (o : Option (List ℕ)) (n : ℕ) → Some n ≡ witnessed o → (ρ : List ℕ) × (o ≡ some ρ) × (n ≡ length ρ)
witnessed-some none n e = cc
witnessed-some (some ρ) n e = (ρ, refl, cc)

pub handed-none : (o : Option Race) → None ≡ handed_out o → o ≡ none
handed-none none e = refl
handed-none (some x) e = cc

pub handed-some : (o : Option Race) (y : FoundRace) → Some y ≡ handed_out o → (x : Race) × (o ≡ some x) × (y.lower ≡ x.lower) × (y.higher ≡ x.higher) × (y.length ≡ length x.witness)
handed-some none y e = cc
handed-some (some x) y e = (x, refl, cc, cc, cc)
