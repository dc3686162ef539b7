-- Question 3 on events, computed, with the lent list and the work area after it. What the answers mean is said over a file's bytes, in the crate questions.
use Rattle.std.specs.Prelude.{ℕ, Bool, not, List, [], ◌∷◌, ◌++◌, length, drop, replicate, ltb, Option as RustOption, Result, Ok, Err}
use Rattle.std.proofs.Math.Option.{Option}
use Rattle.model.specs.Trace.{Trace}
use Rattle.model.specs.Rows.{first, either}
use Rattle.decision.specs.Decision.{witness, is_conflicting}
use Rattle.limits.specs.Limits.{area_bytes, is_area_size}
use Rattle.limits.specs.Refusals.{settled}
use Rattle.limits.specs.declared.Refusal.{Refusal}
use Rattle.limits.specs.declared.Refusal.TheVariants.{ListShort, NotConflicting, AreaShort}
use Rattle.races.specs.Witness.{witnessed, list_with}

-- a work area after an answer: its first 65,536 bytes are zero, and the rest is as it was
unfoldable pub cleared : List ℕ → List ℕ
cleared area = replicate area_bytes 0 ++ drop area_bytes area

-- the tests of refusals 11, 10 and 12
abbrev pub verdict_tests : Trace → ℕ → ℕ → List ℕ → List ℕ → List Bool
verdict_tests t a b list area = not (is_conflicting t a b) ∷ ltb (length list) (length t) ∷ not (is_area_size (length area)) ∷ []

-- the answer by the witness: its length, if there is one
abbrev pub finding : Option (List ℕ) → RustOption ℕ
finding = witnessed

-- by the file's refusal f, if there is one, and its events; a refusal changes nothing
unfoldable pub verdict_in : Option Refusal → Trace → ℕ → ℕ → List ℕ → List ℕ → Result (RustOption ℕ) Refusal × List ℕ × List ℕ
verdict_in f t a b list area =
    settled (λ r. (Err r, list, area)) (Ok (finding (witness t a b)), list_with (witness t a b) list, cleared area)
    (either f (first (verdict_tests t a b list area) (NotConflicting ∷ ListShort ∷ AreaShort ∷ [])))
