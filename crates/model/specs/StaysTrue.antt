-- Demand 3: what is claimed of a good trace t, any extension t' of it and any conflicting pair (a, b) of t.
use Rattle.std.specs.Prelude.{ℕ, ◌↔◌, List}
use Rattle.model.specs.Trace.{Trace}
use Rattle.model.specs.Lists.{TwoThreads}
use Rattle.model.specs.Good.{Good}
use Rattle.model.specs.Reordering.{BringsBoth}
use Rattle.model.specs.Race.{Conflicting, Reported, Witness}
use Rattle.model.specs.Extension.{Extension, PredictableInExtension}

-- claimed where at most two threads have an event in t
pub record ExactAndSteady (t t' : Trace) (a b : ℕ) : Type 0 where
  -- reported exactly when some correct reordering, of the trace or of any of its extensions, brings both accesses next
  pub exact : Reported t a b ↔ PredictableInExtension t a b
  -- the same verdict and the same witness
  pub same_verdict : Reported t a b ↔ Reported t' a b
  pub same_witness : (ρ : List ℕ) → Witness t a b ρ ↔ Witness t' a b ρ

-- claimed for any number of threads
pub record StaysTrue (t t' : Trace) (a b : ℕ) : Type 0 where
  pub two_threads : TwoThreads t → ExactAndSteady t t' a b
  -- a witness of t is in t' a correct reordering that brings both accesses next
  pub witness_stays : (ρ : List ℕ) → Witness t a b ρ → BringsBoth t' ρ a b

-- demand 3 of the model
abbrev pub DemandThree : Type 0
DemandThree = (t t' : Trace) → Good t → Extension t t' → (a b : ℕ) → Conflicting t a b → StaysTrue t t' a b
