-- Each answer to question 2 on good events is given exactly in its case.
use Prim.Native.Nat.{ℕ, zero, suc}
use native.Mathlib.Omega.{arith}
use mathlib.Core.Path.{◌≡◌, refl}
use mathlib.Core.Logic.{◌↔◌}
use lib.Dec.{eqb}
use borrow.Author.Tests.{eqb-true, eqb-false, eq-eqb, ne_eqb}
use Rattle.model.specs.Trace.{Trace, read, kind_of}
use Rattle.model.specs.Observed.{observed}
use Rattle.model.proofs.Tests.{by_cases, kind_valid}
use Rattle.model.proofs.ObservedExact.{observed-write_exactly, observed-start_exactly}
use Rattle.observing.specs.Observing.{IsRead, ObservedOf, sees_write, sees_start, no_read, sees, observed_in}
use Rattle.observing.specs.declared.Observed.{Observed}
use Rattle.observing.specs.declared.Observed.TheVariants.{Write}

pub some_write : (w : ℕ) → (w ≡ 0 → ⊥) → sees w ≡ Write w
some_write zero ne = absurd (ne refl)
some_write (suc w) ne = refl

module _ (t : Trace) (k : ℕ) where
  by_write : (w : ℕ) → observed t k ≡ w → IsRead t k → ObservedOf t k (sees w)
  by_write zero e v = sees_start v ((observed-start_exactly t k).0 e)
  by_write (suc w) e v = sees_write v ((observed-write_exactly t k (suc w) (λ z. omega arith)).0 e)

  seen : ObservedOf t k (observed_in t k)
  unfolding observed_in
  seen =
      by_cases (eqb (kind_of t k) read)
      (λ e.
      let r = eqb-true (kind_of t k) read e in
      rw e (by_write (observed t k) refl (record { valid = kind_valid t k (λ z. omega arith); kind = r })))
      (λ e. rw e (no_read (λ v. eqb-false (kind_of t k) read e v.kind)))

  shown : (o : Observed) → ObservedOf t k o → observed_in t k ≡ o
  unfolding observed_in
  shown o (sees_write {w} v l) =
      let p = l.positive in
      rw (eq-eqb (kind_of t k) read v.kind, (observed-write_exactly t k w (λ z. omega arith)).1 l) (some_write w (λ z. omega arith))
  shown o (sees_start v l) = rw (eq-eqb (kind_of t k) read v.kind, (observed-start_exactly t k).1 l)
  shown o (no_read n) = rw (ne_eqb (kind_of t k) read (λ e. n (record { valid = kind_valid t k (λ z. omega arith); kind = e })))

  pub observed_in_exactly : (o : Observed) → (observed_in t k ≡ o) ↔ ObservedOf t k o
  observed_in_exactly o = ((λ e. rw e at seen), shown o)
