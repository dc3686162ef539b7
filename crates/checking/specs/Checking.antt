-- Question 5 on events, computed. What the answers mean is said over a file's bytes, in the crate questions.
use Rattle.std.specs.Prelude.{ℕ, not, List, [], ◌∷◌, Option as RustOption, Result, Ok, Err}
use Rattle.std.proofs.Math.Option.{Option}
use Rattle.model.specs.Trace.{Trace}
use Rattle.model.specs.Rows.{first, either}
use Rattle.decision.specs.Check.{check}
use Rattle.decision.specs.Decision.{is_conflicting}
use Rattle.limits.specs.declared.Refusal.{Refusal}
use Rattle.limits.specs.declared.Refusal.TheVariants.{NotConflicting}
use Rattle.limits.specs.Refusals.{settled}
use Rattle.checking.specs.declared.Fault.{Fault}
use Rattle.checking.specs.Faults.{checked}

-- by the file's refusal f, if there is one, and its events; refusal 11
unfoldable pub check_in : Option Refusal → Trace → ℕ → ℕ → List ℕ → Result (RustOption Fault) Refusal
check_in f t a b list = settled (λ r. Err r) (Ok (checked (check t a b list))) (either f (first (not (is_conflicting t a b) ∷ []) (NotConflicting ∷ [])))
