-- A list with one place put, its total, and the places of its members.
use Prim.Native.Nat.{ℕ, zero, suc, ◌+◌, ◌*◌, ◌≤◌, ◌<◌}
use native.Mathlib.Omega.{arith}
use mathlib.Core.Path.{◌≡◌, ap}
use mathlib.Core.Logic.{◌≢◌}
use mathlib.Core.List.{List, [], ◌∷◌}
use lib.ListN.{length, set}
use lib.Seq.{get_or-set_same, get_or-set_other}
use lib.Dec.{eqb, ltb}
use borrow.Author.Tests.{eqb-true, eqb-false, ltb-true, ltb-false}
use Rattle.model.specs.Race.{Increasing}
use Rattle.model.proofs.Tests.{by_cases}
use Rattle.model.proofs.Lists.{get_d_mem}
use Rattle.stairs.specs.Stairs.{at}
use Rattle.stairs.specs.Passes.{total}

pub equal_or_not {ℓ} : {G : Type ℓ} (a b : ℕ) → (a ≡ b → G) → (a ≢ b → G) → G
equal_or_not a b f g = by_cases (eqb a b) (λ e. f (eqb-true a b e)) (λ e. g (eqb-false a b e))

-- what holds of the place put, and of the others as they were, holds of each
pub at_set : (F : ℕ → Type 0) (l : List ℕ) (s v k : ℕ) → s < length l → (k ≡ s → F v) → (k ≢ s → F (at l k)) → F (at (set l s v) k)
at_set F l s v k h same other =
    equal_or_not k s (λ e. rw (e, get_or-set_same l s v 0 h) (same e)) (λ n. rw (get_or-set_other l s k v 0 n) (other n))

pub set_grows : (l : List ℕ) (s v : ℕ) → s < length l → at l s ≤ v → (k : ℕ) → at l k ≤ at (set l s v) k
set_grows l s v h b k = at_set (λ x. at l k ≤ x) l s v k h (λ e. rw e b) (λ n. omega arith)

pub total-set : (l : List ℕ) (s v : ℕ) → s < length l → total (set l s v) + at l s ≡ total l + v
total-set [] s v h = absurd (omega arith)
total-set (x ∷ l) zero v h = omega arith
total-set (x ∷ l) (suc s) v h = let r = total-set l s v (omega arith) in omega arith

pub total_few : (b : ℕ) (l : List ℕ) → ((k : ℕ) → at l k ≤ b) → total l ≤ b * length l
total_few b [] f = omega arith
total_few b (x ∷ l) f = let r = total_few b l (λ k. f (suc k)) in let h = f 0 in omega arith

-- ---- places

pub place_up : (l : List ℕ) → Increasing l → (i k : ℕ) → i < k → k < length l → at l i < at l k
place_up [] u i k a h = absurd (omega arith)
place_up (x ∷ l) u i zero a h = absurd (omega arith)
place_up (x ∷ l) u zero (suc k) a h = u.0 (at l k) (get_d_mem l k (omega arith))
place_up (x ∷ l) u (suc i) (suc k) a h = place_up l u.1 i k (omega arith) (omega arith)

pub place_order : (l : List ℕ) → Increasing l → (i k : ℕ) → i < length l → at l i < at l k → i < k
place_order l u i k h b =
    by_cases (ltb i k) (λ e. ltb-true i k e) (λ e.
    let a = ltb-false i k e in
    equal_or_not i k (λ q. let c = ap (at l) q in absurd (omega arith)) (λ q. let c = place_up l u k i (omega arith) h in absurd (omega arith)))
