-- The observed write is the last write of the cell before the read, and the start where there is none.
use Prim.Native.Nat.{ℕ, zero, suc, ◌<◌}
use native.Mathlib.Omega.{arith}
use mathlib.Core.Path.{◌≡◌, refl}
use mathlib.Core.Logic.{◌≢◌, ◌↔◌}
use mathlib.Core.Bool.{Bool, true, false}
use lib.Dec.{eqb, ltb}
use borrow.Author.Tests.{eqb-true, eqb-false, ltb-true, ltb-false}
use Rattle.model.specs.Trace.{Trace, write, object_of, does}
use Rattle.model.specs.Lists.{up_to, before, nearest}
use Rattle.model.specs.Observed.{last_write, observed, LastBefore, Unwritten}
use Rattle.model.proofs.Tests.{by_cases, clash, does-true, true-does}
use Rattle.model.proofs.Lists.{mem_before, before_mem, none-nearest}

-- of the numbers below n, w is the last that passes
record Last (p : ℕ → Bool) (n w : ℕ) : Type 0 where
  earlier : w < n
  passes : p w ≡ true
  none_after : (j : ℕ) → w < j → j < n → p j ≡ false

last_passing : (p : ℕ → Bool) (n : ℕ) → nearest p (up_to n) ≢ 0 → Last p (suc n) (nearest p (up_to n))
last_passing p zero ne = absurd (ne refl)
last_passing p (suc n) ne =
    by_cases (p (suc n))
    (λ e. rw e (record { earlier = omega arith; passes = e; none_after = λ j a b. absurd (omega arith) }))
    (λ e.
    let ih = last_passing p n (rw e at ne) in
    rw e
    (record {
      earlier = let b = ih.earlier in omega arith;
      passes = ih.passes;
      none_after = λ j a b.
          by_cases (eqb j (suc n)) (λ q. rw (eqb-true j (suc n) q) e) (λ q. let d = eqb-false j (suc n) q in ih.none_after j a (omega arith));
    }))

last_before : (p : ℕ → Bool) (k : ℕ) → nearest p (before k) ≢ 0 → Last p k (nearest p (before k))
last_before p zero ne = absurd (ne refl)
last_before p (suc k) ne = last_passing p k ne

-- ---- the last write of any cell

module _ (t : Trace) (x k : ℕ) where
  last_of : (w : ℕ) → w ≢ 0 → last_write t x (before k) ≡ w → LastBefore t x k w
  last_of w ne e =
      let l : Last (does t write x) k w = rw e at (last_before (does t write x) k (λ z. ne (omega arith))) in
      let d = does-true t write x w l.passes in
      record {
        positive = omega arith;
        earlier = l.earlier;
        writes = d.0;
        cell = d.1;
        last = λ j a b c o. clash (true-does t write x j c o) (l.none_after j a b);
      }

  -- 0 exactly where the cell is not written before event k
  pub unwritten_exactly : (last_write t x (before k) ≡ 0) ↔ Unwritten t x 0 k
  unwritten_exactly = (
    λ e i a b c d. none-nearest (does t write x) (before k) (λ j m. (mem_before k j m).0) e i (before_mem k i (omega arith) b) (true-does t write x i c d),
    λ u.
        let v = last_write t x (before k) in
        by_cases (eqb v 0)
        (λ e. eqb-true v 0 e)
        (λ e. let l = last_of v (eqb-false v 0 e) refl in absurd (u v l.positive l.earlier l.writes l.cell)),
  )

  -- a write exactly when it is the last of the cell before event k
  pub last_write_exactly : (w : ℕ) → w ≢ 0 → (last_write t x (before k) ≡ w) ↔ LastBefore t x k w
  last_write_exactly w ne = (
    last_of w ne,
    λ l.
        let v = last_write t x (before k) in
        by_cases (eqb v 0)
        (λ e. absurd (unwritten_exactly.0 (eqb-true v 0 e) w l.positive l.earlier l.writes l.cell))
        (λ e.
        let m = last_of v (eqb-false v 0 e) refl in
        by_cases (ltb v w)
        (λ d. absurd (m.last w (ltb-true v w d) l.earlier l.writes l.cell))
        (λ d.
        by_cases (ltb w v)
        (λ c. absurd (l.last v (ltb-true w v c) m.earlier m.writes m.cell))
        (λ c. let a = ltb-false v w d in let b = ltb-false w v c in omega arith))),
  )

-- ---- the observed write

module _ (t : Trace) (k : ℕ) where
  pub observed-write_exactly : (w : ℕ) → w ≢ 0 → (observed t k ≡ w) ↔ LastBefore t (object_of t k) k w
  unfolding observed
  observed-write_exactly w ne = last_write_exactly t (object_of t k) k w ne

  -- the start exactly where the cell is not written before the read
  pub observed-start_exactly : (observed t k ≡ 0) ↔ Unwritten t (object_of t k) 0 k
  unfolding observed
  observed-start_exactly = unwritten_exactly t (object_of t k) k
