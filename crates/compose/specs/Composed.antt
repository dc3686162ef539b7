-- What a text makes.
use Rattle.std.specs.Prelude.{ℕ, ◌+◌, ◌≡◌, List, ◌++◌, length, Option, Some, None, Result, Ok, Err, codes, decimal}
use Rattle.model.specs.Trace.{Trace}
use Rattle.limits.specs.declared.Refusal.{Refusal}
use Rattle.limits.specs.Refusals.{event_of, text_of}
use Rattle.writing.specs.Written.{file_with}
use Rattle.wording.specs.Reasons.{reason_of, in_words as reason_in_words}
use Rattle.composing.specs.Texts.{lines, line_at, line_of, joined, Makes, FirstBad}
use Rattle.composing.specs.declared.BadLine.{BadLine}
use Rattle.writing.specs.Writing.{handed, answer_write}
use Rattle.compose.specs.declared.Failure.{Failure}
use Rattle.compose.specs.declared.Failure.TheVariants.{BadLine as Bad, Refused}

-- what the writer gives for the recording with this preamble and these events, and the lent file after it
abbrev pub recorded : List ℕ → Trace → List ℕ → Result ℕ Refusal × List ℕ
recorded p es file = handed (file_with p es) file

-- the line of the event that a refusal speaks of, if it speaks of one, so many note lines being before the events
abbrev pub line_about : ℕ → List (List ℕ) → Option ℕ → Option ℕ
line_about a ls None = None
line_about a ls (Some k) = line_of (a + k) ls

-- what each answer means: the first bad line with the reason, and the lent file is as it was; or the lines make a recording, which the writer refuses or writes
pub data Composes (text file file' : List ℕ) : Result ℕ Failure → Type 0 where
  bad_line : {b : BadLine} → FirstBad text b.number → b.reason ≡ reason_of (line_at b.number text) → file' ≡ file → Composes text file file' (Err (Bad b))
  refused : {notes : List (List ℕ)} {es : Trace} {r : Refusal} {n : Option ℕ} → Makes (lines text) notes es → n ≡ line_about (length notes) (lines text) (event_of r)
      → (Err r, file') ≡ recorded (joined notes) es file → Composes text file file' (Err (Refused r n))
  recording : {notes : List (List ℕ)} {es : Trace} {n : ℕ} → Makes (lines text) notes es → (Ok n, file') ≡ recorded (joined notes) es file → Composes text file file' (Ok n)

-- the answer by a preamble and three lists, the text having so many note lines
pub data WritesParts (text : List ℕ) (a : ℕ) (p threads kinds objects file file' : List ℕ) : Result ℕ Failure → Type 0 where
  not_written : {r : Refusal} {n : Option ℕ} → n ≡ line_about a (lines text) (event_of r) → (Err r, file') ≡ answer_write p threads kinds objects file
      → WritesParts text a p threads kinds objects file file' (Err (Refused r n))
  parts_written : {n : ℕ} → (Ok n, file') ≡ answer_write p threads kinds objects file → WritesParts text a p threads kinds objects file file' (Ok n)

-- ---- in words

-- the number of a line, and what is said of it
abbrev pub line_in_words : ℕ → List ℕ → List ℕ
line_in_words n words = codes "bad line " ++ decimal n ++ codes ": " ++ words

-- a failure: its line, if it has one, and the reason or the refusal
abbrev pub in_words : Failure → List ℕ
in_words (Bad b) = line_in_words b.number (reason_in_words b.reason)
in_words (Refused r (Some n)) = line_in_words n (text_of r)
in_words (Refused r None) = text_of r
