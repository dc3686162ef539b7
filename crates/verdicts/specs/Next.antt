-- Question 4 on events, computed, with the work area after it.
use Rattle.std.specs.Prelude.{ℕ, not, List, [], ◌∷◌, length, Option as RustOption, None, Some, Result, Ok, Err}
use Rattle.std.proofs.Math.Option.{Option, none, some}
use Rattle.model.specs.Trace.{Trace}
use Rattle.model.specs.Rows.{first, either}
use Rattle.model.specs.Listing.{Race}
use Rattle.decision.specs.Decision.{next_race}
use Rattle.limits.specs.Limits.{is_area_size}
use Rattle.limits.specs.Refusals.{settled}
use Rattle.limits.specs.declared.Refusal.{Refusal}
use Rattle.limits.specs.declared.Refusal.TheVariants.{AreaShort}
use Rattle.verdicts.specs.Verdict.{cleared}
use Rattle.verdicts.specs.declared.Pair.{Pair}

-- the answer by the race, if there is one: its pair
abbrev pub next : Option Race → RustOption Pair
next none = None
next (some x) = Some (record { lower = x.lower; higher = x.higher })

-- by the file's refusal f, if there is one, and its events; refusal 12
unfoldable pub next_in : Option Refusal → Trace → ℕ → ℕ → List ℕ → Result (RustOption Pair) Refusal × List ℕ
next_in f t a b area = settled (λ r. (Err r, area)) (Ok (next (next_race t a b)), cleared area) (either f (first (not (is_area_size (length area)) ∷ []) (AreaShort ∷ [])))
