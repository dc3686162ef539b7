-- The lines of the nightly report as bytes: decimal numbers without leading zeros, single spaces, and byte 0A at the end of each line.
use Rattle.std.specs.Prelude.{ℕ, List, [], ◌∷◌, ◌++◌, Option, Some, None}
use Rattle.appending.specs.Decimal.{spaced}
use Rattle.limits.specs.Refusals.{number_of, event_of}
use Rattle.limits.specs.declared.Refusal.{Refusal}

-- numbers, each after a space
abbrev pub spaced_all : List ℕ → List ℕ
spaced_all [] = []
spaced_all (k ∷ l) = spaced k ++ spaced_all l

-- the end of a line
abbrev pub line_end : List ℕ
line_end = 10 ∷ []

-- ---- the words

-- "events"
abbrev pub events_word : List ℕ
events_word = 101 ∷ 118 ∷ 101 ∷ 110 ∷ 116 ∷ 115 ∷ []

-- " threads"
abbrev pub threads_word : List ℕ
threads_word = 32 ∷ 116 ∷ 104 ∷ 114 ∷ 101 ∷ 97 ∷ 100 ∷ 115 ∷ []

-- "race"
abbrev pub race_word : List ℕ
race_word = 114 ∷ 97 ∷ 99 ∷ 101 ∷ []

-- " witness"
abbrev pub witness_word : List ℕ
witness_word = 32 ∷ 119 ∷ 105 ∷ 116 ∷ 110 ∷ 101 ∷ 115 ∷ 115 ∷ []

-- "races"
abbrev pub races_word : List ℕ
races_word = 114 ∷ 97 ∷ 99 ∷ 101 ∷ 115 ∷ []

-- " at"
abbrev pub at_word : List ℕ
at_word = 32 ∷ 97 ∷ 116 ∷ []

-- "refused"
abbrev pub refused_word : List ℕ
refused_word = 114 ∷ 101 ∷ 102 ∷ 117 ∷ 115 ∷ 101 ∷ 100 ∷ []

-- ---- the lines

-- "events N threads M"
unfoldable pub events_line : ℕ → ℕ → List ℕ
events_line n m = events_word ++ (spaced n ++ (threads_word ++ (spaced m ++ line_end)))

-- "race A B witness"
unfoldable pub race_head : ℕ → ℕ → List ℕ
race_head a b = race_word ++ (spaced a ++ (spaced b ++ witness_word))

-- and the numbers of the witness
unfoldable pub race_line : ℕ → ℕ → List ℕ → List ℕ
race_line a b ρ = race_head a b ++ (spaced_all ρ ++ line_end)

-- "races K"
unfoldable pub races_line : ℕ → List ℕ
races_line k = races_word ++ (spaced k ++ line_end)

-- " at E", where an event number belongs to the refusal
unfoldable pub at_event : Option ℕ → List ℕ
at_event None = []
at_event (Some k) = at_word ++ spaced k

-- "refused N", or "refused N at E"
unfoldable pub refused_line : Refusal → List ℕ
refused_line r = refused_word ++ (spaced (number_of r) ++ (at_event (event_of r) ++ line_end))
