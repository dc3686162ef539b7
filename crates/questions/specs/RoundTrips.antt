-- The writer beside the questions: what is written is answered for as it was handed in, and what is read is written again.
use Rattle.std.specs.Prelude.{ℕ, ◌≤◌, ◌≡◌, ◌≢◌, Result, Ok, List, [], length, take}
use Rattle.model.specs.Trace.{Trace, thread_list, kind_list, object_list}
use Rattle.model.specs.Lists.{in_front}
use Rattle.limits.specs.Limits.{event_bytes}
use Rattle.format.specs.Layout.{preamble}
use Rattle.judging.specs.Judged.{IsGoodFile, events_of}
use Rattle.questions.specs.Note.{Slice, whole, answer_note}
use Rattle.writing.specs.Written.{trace_from}
use Rattle.writing.specs.RoundTrip.{ReadsAs, AllBytes}
use Rattle.writing.specs.Writing.{answer_write}
use Rattle.limits.specs.declared.Refusal.{Refusal}
use Rattle.questions.specs.Answers.{answer_judge, good_with}

-- what the questions say of a file s that was written of a preamble p and a trace t
pub record AnswersFor (s p : List ℕ) (t : Trace) : Type 0 where
  pub read : ReadsAs event_bytes s p t
  -- question 1: good, with as many events and threads
  pub judged : answer_judge s ≡ Ok (good_with t)
  -- question 6: the preamble or, where that is empty, the operator's own note
  pub noted : (file operator : Slice) → file.now ≡ s → p ≢ [] → answer_note file operator ≡ record { begins = file.ref_ptr; bytes = p }
  pub lent : (file operator : Slice) → file.now ≡ s → p ≡ [] → answer_note file operator ≡ whole operator

-- the first round trip: whatever was written
abbrev pub WhatIsWritten : Type 0
WhatIsWritten =
    (p cs ds xs buffer : List ℕ) (n : ℕ) (after : List ℕ) → answer_write p cs ds xs buffer ≡ (Ok n, after) → AnswersFor (take n after) p (trace_from cs ds xs)

-- the writer with what was read of a file s
abbrev pub written_again : List ℕ → List ℕ → Result ℕ Refusal × List ℕ
written_again s buffer =
    answer_write (preamble s) (thread_list (events_of s)) (kind_list (events_of s)) (object_list (events_of s)) buffer

-- the second round trip: whatever is good is the same file again, byte for byte
abbrev pub WhatIsRead : Type 0
WhatIsRead = (s : List ℕ) → AllBytes s → IsGoodFile s → (buffer : List ℕ) → length s ≤ length buffer → written_again s buffer ≡ (Ok (length s), in_front s buffer)
