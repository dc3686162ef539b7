-- What a mask holds, and how many ones it has, after a number is put in.
use mathlib.Core.Path.{◌≡◌, refl, ap, sym, ◌∙◌}
use mathlib.Core.Bool.{true, false}
use Prim.Native.Nat.{ℕ, zero, suc, ◌+◌, ◌*◌, ◌/◌, ◌%◌, ◌^◌, ◌≤◌, ◌<◌}
use native.Mathlib.Omega.{arith}
use native.Mathlib.Nat.{mod-eq_of_lt, one-mul, pow-succ', div-div-eq-div-mul, mul-div_right, mul-mod_right, div-eq_of_lt, div-one, mod-lt, lt_of_lt_of_le}
use lib.Dec.{eqb, ltb, lit<}
use lib.Pow.{pow-lt, pow_pos, pow_mono}
use lib.Bits.{bit_or, or_shr, or_mod, or_zero_r}
use lib.Count.{ones, ones_step}
use mir.Val.{Fits}
use mir.Syntax.{w16}
use borrow.Author.Tests.{eq-eqb, eqb-true, eqb-false, le-ltb}
use Rattle.bits.specs.Mask.{bit, holds, including}

-- a one shifted by less than the width
pub shifted : (w x : ℕ) → x < w → (1 * 2 ^ x) % 2 ^ w ≡ 2 ^ x
shifted w x h = rw (one-mul) (mod-eq_of_lt (pow-lt h))

bit-or : (a b x : ℕ) → bit (bit_or a b) x ≡ bit_or (bit a x) (bit b x)
bit-or a b x = rw (or_shr a b x) (or_mod (a / 2 ^ x) (b / 2 ^ x) 1)

bit-suc : (m x : ℕ) → bit m (suc x) ≡ bit (m / 2) x
bit-suc m x = ap (λ (y : ℕ). y % 2) (ap (λ (y : ℕ). m / y) (pow-succ' 2 x) ∙ sym (div-div-eq-div-mul m 2 (2 ^ x)))

bit_small : (m x : ℕ) → bit m x < 2
bit_small m x = mod-lt _ (lit< tt)

half_pow : (x : ℕ) → 2 ^ suc x / 2 ≡ 2 ^ x
half_pow x = rw (pow-succ' 2 x) (mul-div_right (2 ^ x) (lit< tt))

even_pow : (x : ℕ) → 2 ^ suc x % 2 ≡ 0
even_pow x = rw (pow-succ' 2 x) (mul-mod_right 2 (2 ^ x))

bit-zero : (x : ℕ) → bit 0 x ≡ 0
bit-zero x = rw (div-eq_of_lt (pow_pos x))

bit-same : (x : ℕ) → bit (2 ^ x) x ≡ 1
bit-same zero = refl
bit-same (suc x) = bit-suc (2 ^ suc x) x ∙ ap (λ (y : ℕ). bit y x) (half_pow x) ∙ bit-same x

bit-other : (y x : ℕ) → (x ≡ y → ⊥) → bit (2 ^ y) x ≡ 0
bit-other zero zero h = absurd (h refl)
bit-other zero (suc x) h = bit-suc 1 x ∙ bit-zero x
bit-other (suc y) zero h = rw (div-one) (even_pow y)
bit-other (suc y) (suc x) h = bit-suc (2 ^ suc y) x ∙ ap (λ (z : ℕ). bit z x) (half_pow y) ∙ bit-other y x (λ e. h (ap suc e))

-- an or with a one in the lowest place, and above it
or_one : (b : ℕ) → b < 2 → bit_or b 1 ≡ 1
or_one zero h = refl
or_one (suc zero) h = refl
or_one (suc (suc b)) h = absurd (omega arith)

low_one : (m : ℕ) → bit_or m 1 % 2 ≡ 1
low_one m = or_mod m 1 1 ∙ or_one (m % 2) (mod-lt _ (lit< tt))

half_one : (m : ℕ) → bit_or m 1 / 2 ≡ m / 2
half_one m = or_shr m 1 1 ∙ or_zero_r (m / 2)

low_above : (m x : ℕ) → bit_or m (2 ^ suc x) % 2 ≡ m % 2
low_above m x = or_mod m (2 ^ suc x) 1 ∙ ap (bit_or (m % 2)) (even_pow x) ∙ or_zero_r (m % 2)

half_above : (m x : ℕ) → bit_or m (2 ^ suc x) / 2 ≡ bit_or (m / 2) (2 ^ x)
half_above m x = or_shr m (2 ^ suc x) 1 ∙ ap (bit_or (m / 2)) (half_pow x)

-- putting x in adds a one, unless it is there
ones-or : (x m : ℕ) → ones (bit_or m (2 ^ x)) + bit m x ≡ ones m + 1
ones-or zero m =
    let d : m / 1 ≡ m = div-one m in
    let l : bit_or m 1 % 2 ≡ 1 = low_one m in
    let h : ones (bit_or m 1 / 2) ≡ ones (m / 2) = ap ones (half_one m) in
    let p = ones_step m in
    let q = ones_step (bit_or m 1) in
    rw d (omega arith)
ones-or (suc x) m =
    let l : bit_or m (2 ^ suc x) % 2 ≡ m % 2 = low_above m x in
    let h : ones (bit_or m (2 ^ suc x) / 2) ≡ ones (bit_or (m / 2) (2 ^ x)) = ap ones (half_above m x) in
    let r = ones-or x (m / 2) in
    let b = bit-suc m x in
    let p = ones_step m in
    let q = ones_step (bit_or m (2 ^ suc x)) in
    omega arith

-- nothing above the width
pub none_above : (m x : ℕ) → Fits w16 m → 16 ≤ x → ltb x 16 ≡ holds m x
unfolding holds
none_above m x f h =
    let l = f.fits in
    let p : 2 ^ 16 ≤ 2 ^ x = pow_mono h in
    rw (le-ltb x 16 h, div-eq_of_lt (lt_of_lt_of_le l p))

-- ---- what callers use

pub none_held : (x : ℕ) → holds 0 x ≡ false
unfolding holds
none_held x = rw (bit-zero x)

pub held_same : (m x : ℕ) → holds (including m x) x ≡ true
unfolding holds including
held_same m x = eq-eqb _ _ (bit-or m (2 ^ x) x ∙ ap (bit_or (bit m x)) (bit-same x) ∙ or_one (bit m x) (bit_small m x))

pub held_other : (m x y : ℕ) → (y ≡ x → ⊥) → holds (including m x) y ≡ holds m y
unfolding holds including
held_other m x y ne = ap (λ (b : ℕ). eqb b 1) (bit-or m (2 ^ x) y ∙ ap (bit_or (bit m y)) (bit-other x y ne) ∙ or_zero_r (bit m y))

pub ones_old : (m x : ℕ) → holds m x ≡ true → ones (including m x) ≡ ones m
unfolding holds including
ones_old m x e = let b = eqb-true (bit m x) 1 e in let s = ones-or x m in omega arith

pub ones_new : (m x : ℕ) → holds m x ≡ false → ones (including m x) ≡ suc (ones m)
unfolding holds including
ones_new m x e = let b = eqb-false (bit m x) 1 e in let l = bit_small m x in let s = ones-or x m in let z : bit m x ≡ 0 = omega arith in omega arith
