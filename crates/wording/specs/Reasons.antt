-- Why a line is bad: the first reason that applies to it, computed, and what a reason says of a line.
use Rattle.std.specs.Prelude.{ℕ, ◌+◌, ◌≤◌, ◌<◌, ◌≡◌, ◌≢◌, ◌⊎◌, Bool, true, cond, not, ◌&&◌, ◌||◌, length, get_or, take, drop, eqb, ltb, leb, bytes_eq, codes}
use mathlib.Core.List.{List, [], ◌∷◌, ◌++◌, Memᴰ}
use Rattle.model.specs.Trace.{read, join}
use Rattle.model.specs.Lists.{up_to, any_in}
use Rattle.format.specs.Readable.{lowest_byte, highest_byte, is_readable}
use Rattle.appending.specs.Decimal.{value_from}
use Rattle.wording.specs.Lines.{note_word, kind_word, note_line, IsNote}
use Rattle.wording.specs.Parts.{first_at}
use Rattle.wording.specs.declared.Reason.{Reason}
use Rattle.wording.specs.declared.Reason.TheVariants.{Empty, CarriageReturn, Tab, LateNote, NoteByte, Words, Kind, NoNumber, LeadingZero, TooLarge}

-- ---- the tests

abbrev pub is_empty : List ℕ → Bool
is_empty s = eqb (length s) 0

-- has it this byte?
abbrev pub has : ℕ → List ℕ → Bool
has b s = ltb (first_at b s) (length s)

-- the same bytes?
abbrev pub same : List ℕ → List ℕ → Bool
same = bytes_eq

-- does it begin with "note ", and is what follows readable?
abbrev pub begins_note : List ℕ → Bool
begins_note line = same (take 5 line) note_word

abbrev pub is_note_line : List ℕ → Bool
is_note_line line = begins_note line && is_readable (drop 5 line)

-- what stands before the first space, and behind it
abbrev pub word_of : List ℕ → List ℕ
word_of s = take (first_at 32 s) s

abbrev pub rest_of : List ℕ → List ℕ
rest_of s = drop (first_at 32 s + 1) s

-- is it a word: bytes, and no space among them?
abbrev pub is_word : List ℕ → Bool
is_word s = not (is_empty s) && not (has 32 s)

-- does it begin with a word and a space?
abbrev pub begins_word : List ℕ → Bool
begins_word s = has 32 s && not (is_empty (word_of s))

-- is it two words, with one space between them?
abbrev pub are_two : List ℕ → Bool
are_two s = begins_word s && is_word (rest_of s)

-- is it the word of a kind? The kinds are the numbers from 1 to the last
abbrev pub is_kind_word : List ℕ → Bool
is_kind_word w = any_in (λ k. same w (kind_word k)) (up_to join)

-- is it a digit, and digits alone?
abbrev pub is_digit : ℕ → Bool
is_digit b = leb 48 b && leb b 57

unfoldable pub all_digits : List ℕ → Bool
all_digits [] = true
all_digits (b ∷ s) = is_digit b && all_digits s

-- a 0, and another byte behind it
abbrev pub leads_zero : List ℕ → Bool
leads_zero s = ltb 1 (length s) && eqb (get_or s 0 0) 48

-- ---- the first reason that applies, from the last on

-- of the first and the third word, which are to be numbers
unfoldable pub number_reason : List ℕ → List ℕ → Reason
number_reason x z = cond (all_digits x && all_digits z) (cond (leads_zero x || leads_zero z) LeadingZero TooLarge) NoNumber

-- of the first word, and of what stands behind it: a kind's word, a space and the third word
unfoldable pub action_reason : List ℕ → List ℕ → Reason
action_reason x s = cond (are_two s) (cond (is_kind_word (word_of s)) (number_reason x (rest_of s)) Kind) Words

-- of a line's words
unfoldable pub word_reason : List ℕ → Reason
word_reason line = cond (begins_word line) (action_reason (word_of line) (rest_of line)) Words

-- of a line that has bytes, and no carriage return and no tab
unfoldable pub note_reason : List ℕ → Reason
note_reason line = cond (is_note_line line) LateNote (cond (begins_note line) NoteByte (word_reason line))

-- of any line
unfoldable pub reason_of : List ℕ → Reason
reason_of line = cond (is_empty line) Empty (cond (has 13 line) CarriageReturn (cond (has 9 line) Tab (note_reason line)))

-- ---- the reasons in words

-- what is said of a line with this reason
abbrev pub in_words : Reason → List ℕ
in_words Empty = codes "an empty line"
in_words CarriageReturn = codes "a carriage return"
in_words Tab = codes "a tab"
in_words LateNote = codes "a note after an event"
in_words NoteByte = codes "a note with a byte that is not 20 to 7E hex"
in_words Words = codes "not three words with one space between them"
in_words Kind = codes "an unknown kind"
in_words NoNumber = codes "not a number"
in_words LeadingZero = codes "a leading zero"
in_words TooLarge = codes "a number that is too large"

-- ---- what a reason says of a line

-- at least one byte, and no space
pub record Word (s : List ℕ) : Type 0 where
  pub some : s ≢ []
  pub clear : ¬ Memᴰ 32 s

-- three words, with one space between them
pub record ThreeWords (line x y z : List ℕ) : Type 0 where
  pub these : line ≡ x ++ (32 ∷ (y ++ (32 ∷ z)))
  pub first : Word x
  pub second : Word y
  pub third : Word z

-- digits alone
abbrev pub Digits : List ℕ → Type 0
Digits s = (d : ℕ) → Memᴰ d s → (48 ≤ d) × (d ≤ 57)

-- a 0 with another byte behind it
pub record LeadsZero (s : List ℕ) : Type 0 where
  pub next : ℕ
  pub more : List ℕ
  pub these : s ≡ 48 ∷ next ∷ more

-- what each says
pub data Tells (line : List ℕ) : Reason → Type 0 where
  empty : line ≡ [] → Tells line Empty
  carriage_return : Memᴰ 13 line → Tells line CarriageReturn
  tab : Memᴰ 9 line → Tells line Tab
  late_note : IsNote line → Tells line LateNote
  note-byte : {text : List ℕ} {b : ℕ} → line ≡ note_line text → Memᴰ b text → (b < lowest_byte) ⊎ (highest_byte < b) → Tells line NoteByte
  words : ((x y z : List ℕ) → ¬ ThreeWords line x y z) → Tells line Words
  kind : {x y z : List ℕ} → ThreeWords line x y z → ((k : ℕ) → read ≤ k → k ≤ join → y ≢ kind_word k) → Tells line Kind
  no_number : {x y z : List ℕ} → ThreeWords line x y z → (¬ Digits x) ⊎ (¬ Digits z) → Tells line NoNumber
  leading_zero : {x y z : List ℕ} → ThreeWords line x y z → LeadsZero x ⊎ LeadsZero z → Tells line LeadingZero
  too_large : {x y z : List ℕ} → ThreeWords line x y z → Digits x → Digits z → (255 < value_from 0 x) ⊎ (65535 < value_from 0 z) → Tells line TooLarge
