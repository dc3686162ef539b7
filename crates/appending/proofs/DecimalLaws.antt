-- The digits of a number: read back they give the number, none is a leading zero, and they are few.
use Prim.Native.Nat.{ℕ, zero, suc, ◌+◌, ◌-◌, ◌*◌, ◌/◌, ◌%◌, ◌^◌, ◌≤◌, ◌<◌}
use native.Mathlib.Omega.{arith}
use native.Mathlib.Nat.{pow-suc}
use mathlib.Core.Path.{◌≡◌, refl, sym, ◌∙◌, ap}
use mathlib.Core.Logic.{◌≢◌, ⊎_elim, ◌↔◌}
use mathlib.Core.List.{List, [], ◌∷◌, ◌++◌, Memᴰ}
use lib.ListN.{length, get_or, length-append}
use lib.Dec.{ltb}
use borrow.Author.Tests.{ltb-true, ltb-false}
use Rattle.model.proofs.Tests.{by_cases}
use Rattle.appending.specs.Decimal.{digits, decimal, value_from, InDecimal}

-- ---- one digit more

digits_same : (f g n : ℕ) → n < f → n < g → digits f n ≡ digits g n
digits_same zero g n p q = absurd (omega arith)
digits_same (suc f) zero n p q = absurd (omega arith)
digits_same (suc f) (suc g) n p q =
    by_cases (ltb n 10) (λ e. rw e)
    (λ e.
    let h = ltb-false n 10 e in
    rw (e, digits_same f g (n / 10) (omega arith) (omega arith)))

pub decimal_one : (n : ℕ) → n < 10 → decimal n ≡ (48 + n) ∷ []
unfolding decimal
decimal_one n h = by_cases (ltb n 10) (λ e. rw e) (λ e. let g = ltb-false n 10 e in absurd (omega arith))

pub decimal_more : (n : ℕ) → 10 ≤ n → decimal n ≡ decimal (n / 10) ++ ((48 + n % 10) ∷ [])
unfolding decimal
decimal_more n h =
    by_cases (ltb n 10) (λ e. let g = ltb-true n 10 e in absurd (omega arith))
    (λ e. rw (e, digits_same n (suc (n / 10)) (n / 10) (omega arith) (omega arith)))

-- ---- how many there are

digits_few : (w f n : ℕ) → n < 10 ^ suc w → length (digits f n) ≤ suc w
digits_few w zero n h = omega arith
digits_few zero (suc f) n h =
    by_cases (ltb n 10) (λ e. rw e (omega arith)) (λ e. let g = ltb-false n 10 e in absurd (omega arith))
digits_few (suc w) (suc f) n h =
    by_cases (ltb n 10) (λ e. rw e (omega arith))
    (λ e.
    let p = pow-suc 10 (suc w) in
    let i = digits_few w f (n / 10) (omega arith) in
    rw (e, length-append) (omega arith))

pub decimal_few : (w n : ℕ) → n < 10 ^ suc w → length (decimal n) ≤ suc w
unfolding decimal
decimal_few w n h = digits_few w (suc n) n h

-- ---- read back

value_append : (v : ℕ) (l m : List ℕ) → value_from v (l ++ m) ≡ value_from (value_from v l) m
value_append v [] m = refl
value_append v (d ∷ l) m = value_append (v * 10 + (d - 48)) l m

digits_value : (f n : ℕ) → n < f → value_from 0 (digits f n) ≡ n
digits_value zero n h = absurd (omega arith)
digits_value (suc f) n h =
    by_cases (ltb n 10) (λ e. rw e (omega arith))
    (λ e.
    let g = ltb-false n 10 e in
    rw (e, value_append 0 (digits f (n / 10)) ((48 + n % 10) ∷ []), digits_value f (n / 10) (omega arith)) (omega arith))

pub decimal_value : (n : ℕ) → value_from 0 (decimal n) ≡ n
unfolding decimal
decimal_value n = digits_value (suc n) n (omega arith)

-- ---- digits only, and no leading zero

digits_only : (f n d : ℕ) → Memᴰ d (digits f n) → (48 ≤ d) × (d ≤ 57)
digits_only zero n d m = absurd (mathlib.Core.List.Memᴰ.not-nil m)
digits_only (suc f) n d m =
    by_cases (ltb n 10)
    (λ e.
    let h = ltb-true n 10 e in
    let k : Memᴰ d ((48 + n) ∷ []) = rw e at m in
    let g = mathlib.Core.List.Memᴰ.eq_of_singleton k in (omega arith, omega arith))
    (λ e.
    let k : Memᴰ d (digits f (n / 10) ++ ((48 + n % 10) ∷ [])) = rw e at m in
    ⊎_elim (λ g. digits_only f (n / 10) d g) (λ g. let h = mathlib.Core.List.Memᴰ.eq_of_singleton g in (omega arith, omega arith)) (mathlib.Core.List.Memᴰ.append_cases (digits f (n / 10)) k))

first-append : (l m : List ℕ) → get_or l 0 48 ≢ 48 → get_or (l ++ m) 0 48 ≢ 48
first-append [] m h e = h refl
first-append (d ∷ l) m h e = h e

first-not-zero : (f n : ℕ) → n < f → 1 ≤ n → get_or (decimal n) 0 48 ≢ 48
first-not-zero zero n h g = absurd (omega arith)
first-not-zero (suc f) n h g =
    by_cases (ltb n 10) (λ e. let l = ltb-true n 10 e in rw (decimal_one n l) (λ q. omega arith))
    (λ e.
    let l = ltb-false n 10 e in
    rw (decimal_more n l) (first-append (decimal (n / 10)) ((48 + n % 10) ∷ []) (first-not-zero f (n / 10) (omega arith) (omega arith))))

pub decimal_in : (n : ℕ) → InDecimal n (decimal n)
unfolding decimal
decimal_in n = record { value = decimal_value n; digits_only = digits_only (suc n) n; leading = leading n }
  where
    leading : (n : ℕ) → get_or (decimal n) 0 48 ≡ 48 → decimal n ≡ 48 ∷ []
    leading zero e = decimal_one 0 (omega arith)
    leading (suc n) e = absurd (first-not-zero (suc (suc n)) (suc n) (omega arith) (omega arith) e)

-- ---- nothing else is the number in decimal

last_apart : (d : ℕ) (l : List ℕ) → (m : List ℕ) × (b : ℕ) × (d ∷ l ≡ m ++ (b ∷ [])) × (length m ≡ length l)
last_apart d [] = ([], d, refl, refl)
last_apart d (x ∷ l) = let r = last_apart x l in (d ∷ r.0, r.1, ap (λ (y : List ℕ). d ∷ y) r.2, ap suc r.3)

module _ (x b n : ℕ) (l : List ℕ) (d : InDecimal n ((x ∷ l) ++ (b ∷ []))) where
  not_leading : x ≢ 48
  not_leading e = let h = ap length (d.leading e) in let g = length-append l (b ∷ []) in omega arith

  one_less : InDecimal (value_from 0 (x ∷ l)) (x ∷ l)
  one_less = record { value = refl; digits_only = λ c h. d.digits_only c (mathlib.Core.List.Memᴰ.append_left (b ∷ []) h); leading = λ e. absurd (not_leading e) }

  only_more : x ∷ l ≡ decimal (value_from 0 (x ∷ l)) → (x ∷ l) ++ (b ∷ []) ≡ decimal n
  only_more i = go (value_from 0 (x ∷ l)) i (sym (value_append 0 (x ∷ l) (b ∷ [])) ∙ d.value) (d.digits_only b (mathlib.Core.List.Memᴰ.append_right (x ∷ l) (mathlib.Core.List.Memᴰ.head refl)))
    where
      go : (m : ℕ) → x ∷ l ≡ decimal m → m * 10 + (b - 48) ≡ n → (48 ≤ b) × (b ≤ 57) → (x ∷ l) ++ (b ∷ []) ≡ decimal n
      go zero i v h = absurd (not_leading (let e = i ∙ decimal_one 0 (omega arith) in cc))
      go (suc m) i v h =
          let p : n / 10 ≡ suc m = omega arith in
          let q : 48 + n % 10 ≡ b = omega arith in
          rw (decimal_more n (omega arith), p, q, ← i)

abbrev Only : ℕ → Type 0
Only k = (n : ℕ) (l : List ℕ) → length l ≡ k → InDecimal n l → l ≡ decimal n

only_longer : (k : ℕ) → Only k → Only (suc k)
only_longer k i n [] e d = absurd (omega arith)
only_longer k i n (b ∷ []) e d =
    let v = d.value in
    let h = d.digits_only b (mathlib.Core.List.Memᴰ.head refl) in
    let g : b ≡ 48 + n = omega arith in
    rw (decimal_one n (omega arith), g)
only_longer k i n (x ∷ y ∷ l) e d =
    let r = last_apart y l in
    let s = r.2 in
    let f : InDecimal n ((x ∷ r.0) ++ (r.1 ∷ [])) = rw s at d in
    rw s (only_more x r.1 n r.0 f (i (value_from 0 (x ∷ r.0)) (x ∷ r.0) (let z = r.3 in omega arith) (one_less x r.1 n r.0 f)))

decimal-only : (k : ℕ) → Only k
decimal-only zero n [] e d = let h = ap length (d.leading refl) in absurd (omega arith)
decimal-only zero n (x ∷ l) e d = absurd (omega arith)
decimal-only (suc k) n l e d = only_longer k (decimal-only k) n l e d

pub decimal_exactly : (n : ℕ) (l : List ℕ) → InDecimal n l ↔ (l ≡ decimal n)
decimal_exactly n l = (decimal-only (length l) n l refl, λ e. rw e (decimal_in n))
