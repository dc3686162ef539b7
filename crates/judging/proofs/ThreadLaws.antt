-- A set of threads with a thread more.
use Prim.Native.Nat.{ℕ}
use mathlib.Core.Path.{◌≡◌, sym}
use mathlib.Core.Bool.{◌||◌}
use lib.Dec.{eqb}
use borrow.Author.Tests.{eqb-true, eqb-false}
use Rattle.model.proofs.Tests.{by_cases}
use Rattle.bits.specs.Mask.{holds, including}
use Rattle.bits.proofs.MaskLaws.{held_same, held_other}

-- it has x, and what it had
pub added : (m x c : ℕ) → holds (including m x) c ≡ (eqb x c || holds m c)
added m x c =
    by_cases (eqb x c)
    (λ e. rw e (rw (eqb-true x c e) (held_same m c)))
    (λ e. rw e (held_other m x c (λ z. eqb-false x c e (sym z))))
