-- Which bytes a preamble may hold (refusal 13).
use Rattle.std.specs.Prelude.{ℕ, ◌≤◌, ◌≡◌, ◌⊎◌, Bool, ◌&&◌, ◌||◌, eqb, leb}
use Rattle.std.specs.List.{list_all}
use mathlib.Core.List.{List, Memᴰ}

-- the line feed, and the lowest and the highest of the other bytes
abbrev pub line_feed : ℕ
line_feed = 0x0A

abbrev pub lowest_byte : ℕ
lowest_byte = 0x20

abbrev pub highest_byte : ℕ
highest_byte = 0x7E

-- a preamble may hold the byte b
abbrev pub ReadableByte : ℕ → Type 0
ReadableByte b = (b ≡ line_feed) ⊎ ((lowest_byte ≤ b) × (b ≤ highest_byte))

-- and it holds no others
abbrev pub Readable : List ℕ → Type 0
Readable s = (b : ℕ) → Memᴰ b s → ReadableByte b

-- computed
unfoldable pub is_readable_byte : ℕ → Bool
is_readable_byte b = eqb b line_feed || (leb lowest_byte b && leb b highest_byte)

unfoldable pub is_readable : List ℕ → Bool
is_readable s = list_all is_readable_byte s
