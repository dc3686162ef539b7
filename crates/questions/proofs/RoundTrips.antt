-- What is written is answered for as it was handed in, and what is read is written again.
use Prim.Native.Nat.{ℕ, ◌≤◌, ◌<◌}
use native.Mathlib.Omega.{arith}
use mathlib.Core.Path.{◌≡◌, refl, sym, ◌∙◌, ap, subst}
use mathlib.Core.Logic.{◌≢◌}
use mathlib.Core.Option.{none}
use mathlib.Core.List.{List, [], ◌∷◌, ◌++◌}
use lib.ListN.{length, take}
use Rattle.model.specs.Trace.{Trace, thread_list, kind_list, object_list}
use Rattle.model.specs.Lists.{in_front}
use Rattle.model.proofs.Lists.{front_taken}
use Rattle.limits.specs.Limits.{event_bytes, max_bytes}
use Rattle.model.specs.Rows.{Quiet, row, nothing}
use Rattle.model.proofs.RowsExact.{quiet_both, both_quiet}
use Rattle.limits.specs.Refusals.{refuses, answers}
use Rattle.format.specs.Layout.{preamble}
use Rattle.judging.specs.Judged.{IsGoodFile, events_of, rows_of_file}
use Rattle.judging.proofs.FileLaws.{meaning, quiet_file}
use Rattle.questions.specs.Note.{Slice, own_note, own-note, lent_note, answer_note}
use Rattle.questions.proofs.AnswersExact.{note_exactly}
use Rattle.writing.specs.Written.{trace_from, file_with}
use Rattle.writing.proofs.ListLaws.{lists_back, lists_even}
use Rattle.writing.proofs.ReadsBack.{reads_back}
use Rattle.writing.proofs.WritesAgain.{writes_again, plain_today}
use Rattle.writing.specs.Writing.{file_from, wrote, writer_rows, Writes, answer_write}
use Rattle.writing.proofs.WriteLaws.{refused_no_bytes}
use Rattle.writing.proofs.WrittenExact.{write_exactly}
use Rattle.std.specs.Prelude.{Result, Ok}
use Rattle.limits.specs.declared.Refusal.{Refusal}
use Rattle.questions.specs.Answers.{answer_judge}
use Rattle.questions.specs.RoundTrips.{AnswersFor, WhatIsWritten, WhatIsRead}

-- ---- what is written

-- a good file whose bytes are those of p and t
module _ (p : List ℕ) (t : Trace) (g : IsGoodFile (file_with p t)) where
  note_of_lem : (file operator : Slice) → file.now ≡ file_with p t → p ≢ [] → answer_note file operator ≡ record { begins = file.ref_ptr; bytes = p }
  note_of_lem file operator e ne =
      let b : preamble file.now ≡ p = ap preamble e ∙ (reads_back event_bytes (omega arith) p t).same_preamble in
      (note_exactly file operator (own_note file)).1 (answers ((quiet_file file.now).1 (rw e g)) (own-note (λ f. ne (sym b ∙ f))))
      ∙ ap (λ (l : List ℕ). record { begins = file.ref_ptr; bytes = l }) b

  answers_for : AnswersFor (file_with p t) p t
  unfolding answer_judge
  answers_for = record {
    read = reads_back event_bytes (omega arith) p t;
    judged = rw ((meaning (file_with p t) none).1 g, (reads_back event_bytes (omega arith) p t).same_events);
    noted = note_of_lem;
    lent = λ file operator e f. (note_exactly file operator _).1 (answers ((quiet_file file.now).1 (rw e g)) (lent_note (ap preamble e ∙ (reads_back event_bytes (omega arith) p t).same_preamble ∙ f)));
  }

module _ (p cs ds xs buffer : List ℕ) (n : ℕ) (after : List ℕ) where
  front_is : {w : Result ℕ Refusal × List ℕ} → Writes p cs ds xs buffer w → w ≡ (Ok n, after) → AnswersFor (take n after) p (trace_from cs ds xs)
  front_is (refuses {r} f) e = absurd (refused_no_bytes r n (ap (λ (x : Result ℕ Refusal × List ℕ). x.0) e))
  front_is (answers q f) e =
      let s = file_from p cs ds xs in
      let g = (quiet_file s).0 (both_quiet (rows_of_file s) _ q.1).0 in
      let w : wrote s buffer ≡ (Ok n, after) = f ∙ e in
      let c = ap (λ (x : Result ℕ Refusal × List ℕ). x.0) w in
      let a : length s ≡ n = cc in
      let b : in_front s buffer ≡ after = ap (λ (x : Result ℕ Refusal × List ℕ). x.1) w in
      let d : take n after ≡ s = rw (← a, ← b) (front_taken s buffer) in
      rw d (answers_for p (trace_from cs ds xs) g)

  few_bytes : {w : Result ℕ Refusal × List ℕ} → Writes p cs ds xs buffer w → w ≡ (Ok n, after) → n ≤ max_bytes
  few_bytes (refuses {r} f) e = absurd (refused_no_bytes r n (ap (λ (x : Result ℕ Refusal × List ℕ). x.0) e))
  few_bytes (answers q f) e =
      let s = file_from p cs ds xs in
      let k = ((quiet_file s).0 (both_quiet (rows_of_file s) _ q.1).0).layout.sized.most in
      let c = ap (λ (x : Result ℕ Refusal × List ℕ). x.0) (f ∙ e) in
      let a : length s ≡ n = cc in
      omega arith

  -- what is written is no longer than a file may be
  pub written_short : (Ok n, after) ≡ answer_write p cs ds xs buffer → n ≤ max_bytes
  written_short e = few_bytes ((write_exactly p cs ds xs buffer (Ok n, after)).0 (sym e)) refl

-- the first round trip
pub what_is_written : WhatIsWritten
what_is_written p cs ds xs buffer n after e = front_is p cs ds xs buffer n after ((write_exactly p cs ds xs buffer (Ok n, after)).0 e) refl

-- ---- what is read

-- the second round trip
pub what_is_read : WhatIsRead
what_is_read s bytes g buffer h =
    let t = events_of s in
    let d : file_from (preamble s) (thread_list t) (kind_list t) (object_list t) ≡ s =
    ap (file_with (preamble s)) (lists_back t) ∙ writes_again event_bytes (omega arith) s bytes g.layout (plain_today s) in
    let q : Quiet (writer_rows (preamble s) (thread_list t) (kind_list t) (object_list t) buffer) = (
      (λ n. n (lists_even t)),
      subst (λ (x : List ℕ). Quiet (rows_of_file x ++ (row 10 nothing (length buffer < length x) ∷ []))) (sym d)
          (quiet_both (rows_of_file s) (row 10 nothing (length buffer < length s) ∷ []) ((quiet_file s).1 g) ((λ l. omega arith), tt)),
    ) in
    (write_exactly (preamble s) (thread_list t) (kind_list t) (object_list t) buffer (Ok (length s), in_front s buffer)).1 (answers q (ap (λ (x : List ℕ). wrote x buffer) d))
