-- What an event of a well-formed trace waits for stands before it.
use Prim.Native.Nat.{ℕ, ◌<◌}
use native.Mathlib.Omega.{arith}
use mathlib.Core.Path.{◌≡◌, sym, ◌∙◌}
use mathlib.Core.Logic.{◌≢◌, ◌↔◌}
use mathlib.Core.List.{List}
use lib.Dec.{eqb, ltb}
use borrow.Author.Tests.{eqb-true, eqb-false, ltb-true, ltb-false}
use Rattle.model.specs.Trace.{Trace, Valid, fork, join, thread_of, kind_of, object_of}
use Rattle.model.specs.Lists.{◌∈◌}
use Rattle.model.specs.Good.{WellFormed, self_fork, self_join, begun, joined as late}
use Rattle.model.specs.Awaits.{Awaits, forked, joined}
use Rattle.model.specs.Reordering.{Ready}
use Rattle.model.proofs.Tests.{by_cases, kind_valid}

-- it is an event
pub awaits_valid : (t : Trace) (k j : ℕ) → Awaits t k j → Valid t j
awaits_valid t k j (forked f o) = kind_valid t j (λ z. let e : ◌≡◌ {A = ℕ} 0 5 = sym z ∙ f in omega arith)
awaits_valid t k j (joined f v o) = v

module _ (t : Trace) (w : WellFormed t) where
  pub awaits_before : (k j : ℕ) → Valid t k → Awaits t k j → j < k
  awaits_before k j v a =
      by_cases (ltb j k)
      (λ l. ltb-true j k l)
      (λ l. let z = ltb-false j k l in by_cases (eqb j k) (λ e. same a (eqb-true j k e)) (λ e. let ne = eqb-false j k e in after a (omega arith)))
    where
      same : Awaits t k j → j ≡ k → j < k
      same (forked f o) e = absurd (w.other_once k v (self_fork (rw e at f) (rw e at o)))
      same (joined f u o) e = absurd (w.other_once k v (self_join f (sym (rw e at o))))

      after : Awaits t k j → k < j → j < k
      after (forked f o) l = absurd (w.forked_first j (awaits_valid t k j (forked f o)) (begun v.positive l f (sym o)))
      after (joined f u o) l = absurd (w.joined_last j u (late l f (sym o)))

-- only a join waits for more than its thread's fork
pub only-fork : (t : Trace) (h : List ℕ) (k : ℕ) → kind_of t k ≢ join
    → Ready t h k ↔ ((j : ℕ) → kind_of t j ≡ fork → object_of t j ≡ thread_of t k → j ∈ h)
only-fork t h k ne = ((λ r j f o. r j (forked f o)), (λ g j a. go g j a))
  where
    go : ((j : ℕ) → kind_of t j ≡ fork → object_of t j ≡ thread_of t k → j ∈ h) → (j : ℕ) → Awaits t k j → j ∈ h
    go g j (forked f o) = g j f o
    go g j (joined f v o) = absurd (ne f)
