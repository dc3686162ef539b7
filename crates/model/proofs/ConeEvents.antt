-- The cone of events of the trace has only such.
use Prim.Native.Nat.{ℕ}
use native.Mathlib.Omega.{arith}
use mathlib.Core.Logic.{inl, inr}
use mathlib.Core.List.{List}
use Rattle.model.specs.Trace.{Trace, Valid}
use Rattle.model.specs.Lists.{◌∈◌}
use Rattle.model.specs.Cone.{InCone, Brings, Earlier, Precedes, root, brought, precedes, observes, closes}
use Rattle.model.proofs.AwaitsExact.{awaits_valid}
use Rattle.model.proofs.Histories.{observed_range}
use Rattle.model.proofs.MatchingExact.{matching_valid}

pub earlier_valid : (t : Trace) (j k : ℕ) → Valid t k → Earlier t j k → Valid t j
earlier_valid t j k v e = record { positive = e.first; bounded = let z = v.bounded in let y = e.less in omega arith }

pub precedes_valid : (t : Trace) (j k : ℕ) → Valid t k → Precedes t j k → Valid t j
precedes_valid t j k v (inl e) = earlier_valid t j k v e
precedes_valid t j k v (inr a) = awaits_valid t k j a

module _ (t : Trace) (R : List ℕ) where
  brings_valid : (k j : ℕ) → Valid t k → Brings t R k j → Valid t j
  brings_valid k j v (precedes e) = precedes_valid t j k v e
  brings_valid k j v (observes r o ne) = let m = observed_range t k (rw o ne) in record { positive = omega arith; bounded = let z = v.bounded in omega arith }
  brings_valid k j v (closes a out o ne) = rw o at (matching_valid t k (rw o ne))

  pub cone_valid : ((r : ℕ) → r ∈ R → Valid t r) → {k : ℕ} → InCone t R k → Valid t k
  cone_valid v {k} (root {r = r} m e) = precedes_valid t k r (v r m) e
  cone_valid v {k = j} (brought {k = k} x b) = brings_valid k j (cone_valid v x) b
