-- The writer: the answer, and the lent buffer after it.
use Rattle.std.specs.Prelude.{ℕ, ◌≤◌, ◌<◌, ◌≡◌, Bool, not, ◌&&◌, List, [], ◌∷◌, ◌++◌, length, eqb, ltb, Result, Ok, Err}
use Rattle.std.proofs.Math.Option.{Option, none, some}
use Rattle.model.specs.Trace.{Trace}
use Rattle.model.specs.Lists.{in_front}
use Rattle.model.specs.Good.{Good, max_events}
use Rattle.model.specs.Rows.{Row, row, nothing, first, either}
use Rattle.model.specs.Refusals.{trace_rows}
use Rattle.limits.specs.Limits.{max_bytes}
use Rattle.limits.specs.Refusals.{RefusedBy, Asked, settled}
use Rattle.limits.specs.declared.Refusal.{Refusal}
use Rattle.limits.specs.declared.Refusal.TheVariants.{ListShort}
use Rattle.format.specs.Readable.{Readable}
use Rattle.judging.specs.Judged.{refusal_of, rows_of_file}
use Rattle.writing.specs.Written.{written_bytes, trace_from, Even, file_with}

-- ---- what reading says of a written file, by what was handed in: a preamble p and a trace t, with z bytes to an event

-- the file is not too long
abbrev pub NotTooLong : ℕ → List ℕ → Trace → Type 0
NotTooLong z p t = written_bytes z (length p) (length t) ≤ max_bytes

pub record Writable (z : ℕ) (p : List ℕ) (t : Trace) : Type 0 where
  pub fits : NotTooLong z p t
  pub readable : Readable p
  pub good : Good t

-- the rows: 2 and 4 have no case
abbrev pub write_rows : ℕ → List ℕ → Trace → List Row
write_rows z p t = row 1 nothing (¬ NotTooLong z p t) ∷ row 3 nothing (¬ (length t ≤ max_events)) ∷ row 13 nothing (¬ Readable p) ∷ trace_rows t

abbrev pub WriteAnswer : ℕ → List ℕ → Trace → Option Refusal → Type 0
WriteAnswer z p t none = Writable z p t
WriteAnswer z p t (some r) = RefusedBy (write_rows z p t) r

-- ---- the answer of the writer

-- the file of a preamble p and of the events whose threads, kinds and objects the lists have
abbrev pub file_from : List ℕ → List ℕ → List ℕ → List ℕ → List ℕ
file_from p threads kinds objects = file_with p (trace_from threads kinds objects)

-- the file in the front of the buffer, and the rest as it was
abbrev pub wrote : List ℕ → List ℕ → Result ℕ Refusal × List ℕ
wrote file buffer = (Ok (length file), in_front file buffer)

-- the rows: lists of different lengths have no file, which is refusal 10; then those of reading the file; a buffer too short is refusal 10, judged last
abbrev pub writer_rows : List ℕ → List ℕ → List ℕ → List ℕ → List ℕ → List Row
writer_rows p threads kinds objects buffer =
    row 10 nothing (¬ Even threads kinds objects) ∷ (rows_of_file (file_from p threads kinds objects) ++ row 10 nothing (length buffer < length (file_from p threads kinds objects)) ∷ [])

-- what each answer means; a refusal changes nothing
abbrev pub Writes : List ℕ → List ℕ → List ℕ → List ℕ → List ℕ → Result ℕ Refusal × List ℕ → Type 0
Writes p threads kinds objects buffer w = Asked (writer_rows p threads kinds objects buffer) (λ r. (Err r, buffer)) (λ w. wrote (file_from p threads kinds objects) buffer ≡ w) w

-- ---- computed

unfoldable pub is_even : List ℕ → List ℕ → List ℕ → Bool
is_even threads kinds objects = eqb (length kinds) (length threads) && eqb (length objects) (length threads)

-- a file handed to a buffer
abbrev pub hand_refusal : List ℕ → List ℕ → Option Refusal
hand_refusal file buffer = either (refusal_of file) (first (ltb (length buffer) (length file) ∷ []) (ListShort ∷ []))

unfoldable pub handed : List ℕ → List ℕ → Result ℕ Refusal × List ℕ
handed file buffer = settled (λ r. (Err r, buffer)) (wrote file buffer) (hand_refusal file buffer)

unfoldable pub answer_write : List ℕ → List ℕ → List ℕ → List ℕ → List ℕ → Result ℕ Refusal × List ℕ
answer_write p threads kinds objects buffer =
    let file = file_from p threads kinds objects in
    settled (λ r. (Err r, buffer)) (wrote file buffer) (either (first (not (is_even threads kinds objects) ∷ []) (ListShort ∷ [])) (hand_refusal file buffer))
