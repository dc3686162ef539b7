-- What was passed of a list at a place, latest first.
use Prim.Native.Nat.{ℕ, zero, suc, ◌≤◌, ◌<◌}
use native.Mathlib.Omega.{arith}
use mathlib.Core.Path.{◌≡◌, sym, ap, ◌∙◌}
use mathlib.Core.Bool.{Bool, true}
use mathlib.Core.List.Memᴰ
use mathlib.Core.List.{List, [], ◌∷◌, reverse, reverse-append}
use lib.ListN.{length, get_or, take}
use lib.Seq.{take-suc, take_all}
use lib.Dec.{leb}
use borrow.Author.Tests.{leb-true, leb-false}
use Rattle.model.specs.Lists.{◌∈◌, nearest, passed}
use Rattle.model.specs.Race.{Increasing}
use Rattle.model.proofs.Tests.{by_cases, in_cons}
use Rattle.model.proofs.Lists.{get_d_mem, mem_reverse, reverse_mem}

pub passed-suc : (l : List ℕ) (i : ℕ) → i < length l → passed l (suc i) ≡ get_or l i 0 ∷ passed l i
passed-suc l i p = ap reverse (take-suc l i 0 p) ∙ reverse-append (take i l) (get_or l i 0 ∷ [])

pub passed-all : (l : List ℕ) (i : ℕ) → length l ≤ i → passed l i ≡ reverse l
passed-all l i p = ap reverse (take_all i l p)

take_in : (l : List ℕ) (i k : ℕ) → k ∈ take i l → k ∈ l
take_in [] zero k m = m
take_in [] (suc i) k m = m
take_in (x ∷ l) zero k m = absurd (Memᴰ.not-nil m)
take_in (x ∷ l) (suc i) k m = in_cons m (λ e. Memᴰ.head e) (λ n. Memᴰ.tail (take_in l i k n))

pub passed_in : (l : List ℕ) (i k : ℕ) → k ∈ passed l i → k ∈ l
passed_in l i k m = take_in l i k (mem_reverse k (take i l) m)

-- in an increasing list those that were passed are those below the one at the place

take_below : (l : List ℕ) (i k : ℕ) → Increasing l → i < length l → k ∈ take i l → k < get_or l i 0
take_below [] i k u h m = absurd (omega arith)
take_below (x ∷ l) zero k u h m = absurd (Memᴰ.not-nil m)
take_below (x ∷ l) (suc i) k u h m = in_cons m (λ e. rw e (u.0 (get_or l i 0) (get_d_mem l i (omega arith)))) (λ n. take_below l i k u.1 (omega arith) n)

below_take : (l : List ℕ) (i k : ℕ) → Increasing l → i < length l → k ∈ l → k < get_or l i 0 → k ∈ take i l
below_take [] i k u h m lt = absurd (omega arith)
below_take (x ∷ l) zero k u h m lt = in_cons m (λ e. let z : k ≡ x = e in absurd (omega arith)) (λ n. let z = u.0 k n in absurd (omega arith))
below_take (x ∷ l) (suc i) k u h m lt = in_cons m (λ e. Memᴰ.head e) (λ n. Memᴰ.tail (below_take l i k u.1 (omega arith) n lt))

module _ (l : List ℕ) (i : ℕ) (u : Increasing l) (h : i < length l) where
  pub passed_below : (k : ℕ) → k ∈ passed l i → k < get_or l i 0
  passed_below k m = take_below l i k u h (mem_reverse k (take i l) m)

  pub below_passed : (k : ℕ) → k ∈ l → k < get_or l i 0 → k ∈ passed l i
  below_passed k m lt = reverse_mem (below_take l i k u h m lt)

-- the latest that passes a test is above all others that do
pub passed_last : (p : ℕ → Bool) (l : List ℕ) (i k : ℕ) → Increasing l → k ∈ passed l i → p k ≡ true → k ≤ nearest p (passed l i)
passed_last p l zero k u m e = absurd (Memᴰ.not-nil m)
passed_last p l (suc i) k u m e =
    by_cases (leb (length l) i)
    (λ b.
    let z = leb-true (length l) i b in
    let a : passed l (suc i) ≡ passed l i = passed-all l (suc i) (omega arith) ∙ sym (passed-all l i z) in
    rw a (passed_last p l i k u (rw a at m) e))
    (λ b.
    let h = leb-false _ _ b in
    rw (passed-suc l i h) (in_cons (rw (passed-suc l i h) at m)
    (λ q. rw (← q, e) (omega arith))
    (λ n.
    let lt = passed_below l i u h k n in
    let ih = passed_last p l i k u n e in
    by_cases (p (get_or l i 0)) (λ f. rw f (omega arith)) (λ f. rw f ih))))
