-- The lines of a text that a recording is made of, as bytes, and what reading one gives.
use Rattle.std.specs.Prelude.{ℕ, ◌≤◌, ◌<◌, ◌≡◌, Bool, false, cond, List, [], ◌∷◌, ◌++◌, eqb, Option, Some, None}
use Rattle.model.specs.Trace.{Event, read, write, acquire, release, fork, join}
use Rattle.limits.specs.Kinds.{kind_number}
use Rattle.limits.specs.declared.Kind.{Kind}
use Rattle.format.specs.Readable.{Readable}
use Rattle.appending.specs.Decimal.{decimal}
use Rattle.wording.specs.declared.Line.{Line}
use Rattle.wording.specs.declared.Line.TheVariants.{Note, Event as EventOf}

-- ---- the words

-- "note "
abbrev pub note_word : List ℕ
note_word = 110 ∷ 111 ∷ 116 ∷ 101 ∷ 32 ∷ []

-- "read"
abbrev pub read_word : List ℕ
read_word = 114 ∷ 101 ∷ 97 ∷ 100 ∷ []

-- "write"
abbrev pub write_word : List ℕ
write_word = 119 ∷ 114 ∷ 105 ∷ 116 ∷ 101 ∷ []

-- "acquire"
abbrev pub acquire_word : List ℕ
acquire_word = 97 ∷ 99 ∷ 113 ∷ 117 ∷ 105 ∷ 114 ∷ 101 ∷ []

-- "release"
abbrev pub release_word : List ℕ
release_word = 114 ∷ 101 ∷ 108 ∷ 101 ∷ 97 ∷ 115 ∷ 101 ∷ []

-- "fork"
abbrev pub fork_word : List ℕ
fork_word = 102 ∷ 111 ∷ 114 ∷ 107 ∷ []

-- "join"
abbrev pub join_word : List ℕ
join_word = 106 ∷ 111 ∷ 105 ∷ 110 ∷ []

-- the word of a kind
unfoldable pub kind_word : ℕ → List ℕ
kind_word k =
    cond (eqb k read) read_word
    (cond (eqb k write) write_word
    (cond (eqb k acquire) acquire_word
    (cond (eqb k release) release_word
    (cond (eqb k fork) fork_word join_word))))

-- ---- note lines

-- a text after the word
abbrev pub note_line : List ℕ → List ℕ
note_line text = note_word ++ text

-- the line of a text whose bytes a preamble may hold; a line has no line feed, so they are 20 to 7E hex
pub record IsNote (line : List ℕ) : Type 0 where
  pub text : List ℕ
  pub readable : Readable text
  pub these : line ≡ note_line text

-- ---- event lines

-- thread, kind and object, with a space between
unfoldable pub event_line : Event → List ℕ
event_line e = decimal e.thread ++ (32 ∷ (kind_word e.kind ++ (32 ∷ decimal e.object)))

-- an event of a known kind whose numbers are of the size that a recording has for them
pub record InRange (e : Event) : Type 0 where
  pub thread : e.thread < 256
  pub least : read ≤ e.kind
  pub most : e.kind ≤ join
  pub object : e.object < 65536

-- the line of such an event
pub record IsEvent (line : List ℕ) (e : Event) : Type 0 where
  pub in_range : InRange e
  pub these : line ≡ event_line e

-- ---- comments

-- a line that begins with "#"
abbrev pub is_comment : List ℕ → Bool
is_comment [] = false
is_comment (b ∷ l) = eqb b 35

-- ---- reading a line

-- what each answer means: a note line, the line of this event, neither
pub data Reads (line : List ℕ) : Option Line → Type 0 where
  note : IsNote line → Reads line (Some Note)
  event : {t : ℕ} {k : Kind} {o : ℕ} → IsEvent line (record { thread = t; kind = kind_number k; object = o }) → Reads line (Some (EventOf t k o))
  bad : ¬ IsNote line → ((e : Event) → ¬ IsEvent line e) → Reads line None
