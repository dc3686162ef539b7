-- Numbers in decimal, as bytes, without leading zeros.
use Rattle.std.specs.Prelude.{ℕ, zero, suc, ◌+◌, ◌-◌, ◌*◌, ◌/◌, ◌%◌, ◌≤◌, ◌≡◌, cond, get_or, ltb}
use mathlib.Core.List.{List, [], ◌∷◌, ◌++◌, Memᴰ}

-- the digits of n, the highest first; f is at least how many there are
abbrev pub digits : ℕ → ℕ → List ℕ
digits zero n = []
digits (suc f) n = cond (ltb n 10) ((48 + n) ∷ []) (digits f (n / 10) ++ ((48 + n % 10) ∷ []))

-- a number in decimal
unfoldable pub decimal : ℕ → List ℕ
decimal n = digits (suc n) n

-- the number that digits stand for, v having been read before them: v times ten and the next digit
abbrev pub value_from : ℕ → List ℕ → ℕ
value_from v [] = v
value_from v (d ∷ l) = value_from (v * 10 + (d - 48)) l

-- what is asked of a number in decimal: the digits stand for it, they are digits, and there is at least one and no leading zero, but for 0 alone
pub record InDecimal (n : ℕ) (l : List ℕ) : Type 0 where
  pub value : value_from 0 l ≡ n
  pub digits_only : (d : ℕ) → Memᴰ d l → (48 ≤ d) × (d ≤ 57)
  pub leading : get_or l 0 48 ≡ 48 → l ≡ 48 ∷ []

-- a number after a space
abbrev pub spaced : ℕ → List ℕ
spaced n = 32 ∷ decimal n

-- the most bytes of that: for an event's number, which has 16 bits, and for one of 32 bits
abbrev pub event_width : ℕ
event_width = 6

abbrev pub number_width : ℕ
number_width = 11
