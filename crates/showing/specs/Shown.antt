-- A recording as the text that makes it: its note lines, then its event lines.
use Rattle.std.specs.Prelude.{ℕ, ◌<◌, ◌≡◌, List, [], ◌∷◌, ◌++◌, map, length, ltb, Result, Ok, Err}
use Rattle.model.specs.Trace.{Trace}
use Rattle.model.specs.Lists.{in_front}
use Rattle.model.specs.Rows.{Row, row, nothing, first, either}
use Rattle.limits.specs.Refusals.{Asked, settled}
use Rattle.limits.specs.declared.Refusal.TheVariants.{ListShort}
use Rattle.format.specs.Readable.{line_feed}
use Rattle.format.specs.Layout.{preamble}
use Rattle.judging.specs.Judged.{events_of, refusal_of, rows_of_file}
use Rattle.wording.specs.Lines.{note_line, event_line}
use Rattle.composing.specs.Texts.{text_bytes, lines}
use Rattle.limits.specs.declared.Refusal.{Refusal}

-- ---- the text

-- the texts of a preamble's note lines: its parts between line feeds, that is its lines where one more line feed ends the last of them; none where it
-- is empty
unfoldable pub notes_of : List ℕ → List (List ℕ)
notes_of [] = []
notes_of (b ∷ p) = lines ((b ∷ p) ++ (line_feed ∷ []))

-- the note lines of these texts, then the lines of these events
abbrev pub lines_with : List (List ℕ) → Trace → List (List ℕ)
lines_with notes es = map note_line notes ++ map event_line es

-- each line with a line feed behind it
unfoldable pub text_from : List (List ℕ) → List ℕ
text_from [] = []
text_from (l ∷ ls) = l ++ (line_feed ∷ text_from ls)

-- the text of a preamble and events, and that of a file
unfoldable pub text_with : List ℕ → Trace → List ℕ
text_with p es = text_from (lines_with (notes_of p) es)

abbrev pub text_of : List ℕ → List ℕ
text_of s = text_with (preamble s) (events_of s)

-- ---- the answer, with the lent bytes after it

-- a text in the front of the lent bytes, and the rest as it was
abbrev pub shown : List ℕ → List ℕ → Result ℕ Refusal × List ℕ
shown text out = (Ok (length text), in_front text out)

-- the rows: those of the file; fewer lent bytes than a text may have are refusal 10
abbrev pub show_rows : List ℕ → List ℕ → List Row
show_rows s out = rows_of_file s ++ row 10 nothing (length out < text_bytes) ∷ []

-- what each answer means; a refusal changes nothing
abbrev pub Shows : List ℕ → List ℕ → Result ℕ Refusal × List ℕ → Type 0
Shows s out x = Asked (show_rows s out) (λ r. (Err r, out)) (λ x. shown (text_of s) out ≡ x) x

-- computed
unfoldable pub answer_show : List ℕ → List ℕ → Result ℕ Refusal × List ℕ
answer_show s out =
    settled (λ r. (Err r, out)) (shown (text_of s) out) (either (refusal_of s) (first (ltb (length out) text_bytes ∷ []) (ListShort ∷ [])))
