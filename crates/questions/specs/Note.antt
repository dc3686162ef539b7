-- Question 6. The note is a part of one of the two lent slices.
use Rattle.std.specs.Prelude.{ℕ, ◌≡◌, ◌≢◌, cond, List, [], length, take, eqb, Option, Some, None}
use Rattle.std.specs.Borrow.{Bor}
use Rattle.format.specs.Layout.{start, preamble}
use Rattle.limits.specs.Refusals.{Asked, settled}
use Rattle.judging.specs.Judged.{refusal_of, rows_of_file}

-- a lent slice of bytes: where it begins in memory (ref_ptr), and its bytes (now)
abbrev pub Slice : Type 0
Slice = Bor (List ℕ)

-- a part of a slice: where it begins in memory, and its bytes
pub record Part : Type 0 where
  pub begins : ℕ × ℕ
  pub bytes : List ℕ

abbrev pub whole : Slice → Part
whole x = record { begins = x.ref_ptr; bytes = x.now }

-- its first m bytes
abbrev pub front : ℕ → Slice → Part
front m x = record { begins = x.ref_ptr; bytes = take m x.now }

-- the preamble, which is at the front of a file
abbrev pub own_note : Slice → Part
own_note file = record { begins = file.ref_ptr; bytes = preamble file.now }

-- what each answer means: the preamble; where that is empty, the whole of the operator's note
pub data NoteOf (file operator : Slice) : Part → Type 0 where
  own-note : preamble file.now ≢ [] → NoteOf file operator (own_note file)
  lent_note : preamble file.now ≡ [] → NoteOf file operator (whole operator)

-- for a refused file the empty part at its front
abbrev pub Notes : Slice → Slice → Part → Type 0
Notes file operator p = Asked (rows_of_file file.now) (λ r. front 0 file) (NoteOf file operator) p

-- ---- computed

-- the part at which a note stands: the first so many bytes of the file, or the operator's own
abbrev pub standing : Slice → Slice → Option ℕ → Part
standing file operator (Some m) = front m file
standing file operator None = whole operator

-- where the note of a good file with these bytes stands
abbrev pub noted_in : List ℕ → Option ℕ
noted_in s = cond (eqb (length (preamble s)) 0) None (Some (start s))

unfoldable pub answer_noted : List ℕ → Option ℕ
answer_noted s = settled (λ r. Some 0) (noted_in s) (refusal_of s)

unfoldable pub answer_note : Slice → Slice → Part
answer_note file operator = standing file operator (answer_noted file.now)
