-- Numbers in decimal.
use Prim.Native.Nat.{ℕ, suc, ◌+◌, ◌-◌, ◌*◌, ◌≤◌, ◌<◌}
use native.Mathlib.Omega.{arith}
use mathlib.Core.Path.{◌≡◌, refl, sym, ap}
use mathlib.Core.Bool.{true, false, false≢true}
use mathlib.Core.Logic.{◌≢◌, ◌⊎◌, inl, inr, ⊎_elim}
use mathlib.Core.List.Memᴰ
use mathlib.Core.List.{List, [], ◌∷◌, Memᴰ}
use lib.ListN.{length, get_or, drop}
use lib.Dec.{ltb, eqb}
use borrow.Author.Tests.{lt-ltb, le-ltb, ltb-true, ltb-false, eq-eqb, eqb-true}
use Rattle.model.proofs.Tests.{by_cases, in_cons, both, true_both, clash}
use Rattle.appending.specs.Decimal.{decimal, value_from, InDecimal}
use Rattle.appending.proofs.DecimalLaws.{decimal_in, decimal_exactly}
use Rattle.wording.specs.Parts.{first_at, digits_from, ReadsNumber, value, absent}
use Rattle.wording.specs.Reasons.{leads_zero}
use Rattle.wording.proofs.FirstLaws.{first_absent}
use Rattle.std.specs.Prelude.{Option, Some, None}
use Rattle.std.proofs.lemmas.Option.{none-some, same_Some}

-- ---- the loop over the digits

-- the digits before place i stand for n
pub record Digits (s : List ℕ) (n i : ℕ) : Type 0 where
  pub left : digits_from 0 s ≡ digits_from n (drop i s)
  pub small : n < 65536

-- ---- the digits are the number in decimal

module _ (v d : ℕ) (s : List ℕ) where
  -- what a number says of its first digit
  digit_good : (n : ℕ) → digits_from v (d ∷ s) ≡ Some n → (48 ≤ d) × (d ≤ 57) × (v * 10 + (d - 48) ≤ 65535) × (digits_from (v * 10 + (d - 48)) s ≡ Some n)
  digit_good n q =
      by_cases (ltb d 48) (λ e. absurd (none-some n (rw e at q)))
      (λ e.
      by_cases (ltb 57 d) (λ f. absurd (none-some n (rw (e, f) at q)))
      (λ f.
      by_cases (ltb 65535 (v * 10 + (d - 48))) (λ g. absurd (none-some n (rw (e, f, g) at q)))
      (λ g. (ltb-false _ _ e, ltb-false _ _ f, ltb-false _ _ g, rw (e, f, g) at q))))

  -- what no number says of it
  digit_bad : digits_from v (d ∷ s) ≡ None → 48 ≤ d → d ≤ 57 → (65535 < v * 10 + (d - 48)) ⊎ (digits_from (v * 10 + (d - 48)) s ≡ None)
  digit_bad q l h =
      by_cases (ltb 65535 (v * 10 + (d - 48))) (λ g. inl (ltb-true _ _ g))
      (λ g. inr (rw (le-ltb d 48 l, le-ltb 57 d h, g) at q))

value_grows : (v : ℕ) (s : List ℕ) → v ≤ value_from v s
value_grows v [] = omega arith
value_grows v (d ∷ s) = let h = value_grows (v * 10 + (d - 48)) s in omega arith

good_value : (v : ℕ) (s : List ℕ) (n : ℕ) → v < 65536 → digits_from v s ≡ Some n → (value_from v s ≡ n) × (n < 65536)
good_value v [] n h q = let e = same_Some v n q in (e, omega arith)
good_value v (d ∷ s) n h q =
    let g = digit_good v d s n q in
    let m = g.2 in
    good_value (v * 10 + (d - 48)) s n (omega arith) g.3

good-digits : (v : ℕ) (s : List ℕ) (n : ℕ) → digits_from v s ≡ Some n → (d : ℕ) → Memᴰ d s → (48 ≤ d) × (d ≤ 57)
good-digits v [] n q d m = absurd (Memᴰ.not-nil m)
good-digits v (c ∷ s) n q d m =
    let g = digit_good v c s n q in
    in_cons m (λ e. let l = g.0 in let h = g.1 in (omega arith, omega arith)) (λ t. good-digits (v * 10 + (c - 48)) s n g.3 d t)

bad_value : (v : ℕ) (s : List ℕ) → digits_from v s ≡ None → ((d : ℕ) → Memᴰ d s → (48 ≤ d) × (d ≤ 57)) → 65535 < value_from v s
bad_value v [] q h = absurd (none-some v (sym q))
bad_value v (d ∷ s) q h =
    let b = h d (Memᴰ.head refl) in
    ⊎_elim (λ l. let g = value_grows (v * 10 + (d - 48)) s in omega arith)
    (λ a. bad_value (v * 10 + (d - 48)) s a (λ c m. h c (Memᴰ.tail m)))
    (digit_bad v d s q b.0 b.1)

-- ---- the ways through `read_number`

-- a 0 in front, and no other byte behind it
pub zero_alone : (s : List ℕ) → s ≢ [] → leads_zero s ≡ false → get_or s 0 48 ≡ 48 → s ≡ 48 ∷ []
zero_alone [] n e q = absurd (n refl)
zero_alone (b ∷ []) n e q = rw q
zero_alone (b ∷ c ∷ s) n e q = clash (true_both {b = ltb 1 (length (b ∷ c ∷ s))} (lt-ltb 1 (suc (suc (length s))) (omega arith)) (eq-eqb b 48 q)) e

module _ (s : List ℕ) where
  -- no number is that short
  pub number_empty : length s ≡ 0 → ReadsNumber s None
  number_empty h = absent (λ n small e. let d = (decimal_exactly n s).1 e in go s h d)
    where
      go : {n : ℕ} (s : List ℕ) → length s ≡ 0 → InDecimal n s → ⊥
      go [] h d = let e = ap length (d.leading refl) in omega arith
      go (x ∷ s) h d = omega arith

  pub number_leading : leads_zero s ≡ true → ReadsNumber s None
  number_leading h = absent (λ n small e. let d = (decimal_exactly n s).1 e in go s h d)
    where
      go : {n : ℕ} (s : List ℕ) → leads_zero s ≡ true → InDecimal n s → ⊥
      go [] e d = absurd (false≢true e)
      go (b ∷ []) e d = absurd (false≢true e)
      go (b ∷ c ∷ s) e d =
          let p = both (ltb 1 (length (b ∷ c ∷ s))) (eqb b 48) e in
          let h = ap length (d.leading (eqb-true b 48 p.1)) in
          omega arith

  pub number_digits : (length s ≡ 0 → ⊥) → leads_zero s ≡ false → (r : Option ℕ) → r ≡ digits_from 0 s → ReadsNumber s r
  number_digits some zero (Some n) e =
      let v = good_value 0 s n (omega arith) (sym e) in
      let d : InDecimal n s = record { value = v.0; digits_only = good-digits 0 s n (sym e); leading = zero_alone s (λ q. some (ap length q)) zero } in
      value v.1 ((decimal_exactly n s).0 d)
  number_digits some zero None e =
      absent (λ n small f.
      let d = (decimal_exactly n s).1 f in
      let v = d.value in
      let l = bad_value 0 s (sym e) d.digits_only in
      omega arith)

-- what a number that was read says
pub read_value : {s : List ℕ} {r : Option ℕ} → ReadsNumber s r → (n : ℕ) → r ≡ Some n → (n < 65536) × (s ≡ decimal n)
read_value (value {n = m} h e) n q = let z = same_Some m n q in (omega arith, rw z at e)
read_value (absent f) n q = absurd (none-some n q)

pub read_absent : {s : List ℕ} {r : Option ℕ} → ReadsNumber s r → r ≡ None → (n : ℕ) → n < 65536 → s ≢ decimal n
read_absent (value {n} h e) q = absurd (none-some n (sym q))
read_absent (absent f) q = f

-- no number has a space
pub decimal-whole : (n : ℕ) → first_at 32 (decimal n) ≡ length (decimal n)
decimal-whole n = first_absent 32 (decimal n) (λ b m e. let h = (decimal_in n).digits_only b m in omega arith)
