-- Demand 3 of the answers: what is claimed of those that the decision gives for a good trace t, any extension t' of it and any conflicting pair (a, b) of t.
use Rattle.std.specs.Prelude.{ℕ, ◌≡◌, ◌↔◌, List}
use Rattle.std.proofs.Math.Option.{some}
use Rattle.model.specs.Trace.{Trace}
use Rattle.model.specs.Lists.{TwoThreads}
use Rattle.model.specs.Good.{Good}
use Rattle.model.specs.Reordering.{BringsBoth}
use Rattle.model.specs.Race.{Conflicting, Witness}
use Rattle.model.specs.Extension.{Extension, PredictableInExtension}
use Rattle.model.specs.StaysTrue.{StaysTrue}
use Rattle.decision.specs.Check.{check}
use Rattle.decision.specs.Decision.{witness}

-- claimed of the answers to question 3 where at most two threads have an event in t
pub record SteadyAnswers (t t' : Trace) (a b : ℕ) : Type 0 where
  -- a witness exactly when some correct reordering, of the trace or of any of its extensions, brings both accesses next
  pub exact_answer : ((ρ : List ℕ) × (witness t a b ≡ some ρ)) ↔ PredictableInExtension t a b
  -- the same answer
  pub same_answer : witness t' a b ≡ witness t a b

-- claimed for any number of threads
pub record AnswersStay (t t' : Trace) (a b : ℕ) : Type 0 where
  -- of the definitions
  pub stays : StaysTrue t t' a b
  pub two_threads : TwoThreads t → SteadyAnswers t t' a b
  -- the check says yes in t' to a witness of t
  pub witness_accepted : (ρ : List ℕ) → Witness t a b ρ → check t' a b ρ ≡ 0
  -- the answer to question 3 is in t' a correct reordering that brings both accesses next, and the check says yes to it there
  pub answer_stays : (ρ : List ℕ) → witness t a b ≡ some ρ → BringsBoth t' ρ a b × (check t' a b ρ ≡ 0)

-- demand 3 of the decision
abbrev pub DemandThree : Type 0
DemandThree = (t t' : Trace) → Good t → Extension t t' → (a b : ℕ) → Conflicting t a b → AnswersStay t t' a b
