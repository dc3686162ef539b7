-- Each answer to questions 1, 2 and 6 is given exactly in its case.
use Prim.Native.Nat.{ℕ}
use native.Mathlib.Omega.{arith}
use mathlib.Core.Path.{◌≡◌, refl, ap}
use mathlib.Core.Logic.Iff
use mathlib.Core.Logic.{◌↔◌}
use mathlib.Core.Option.{Option, none, some}
use mathlib.Core.List.{List, [], ◌∷◌}
use lib.ListN.{length}
use Rattle.std.specs.Prelude.{Some, Result, Ok}
use lib.Dec.{eqb}
use borrow.Author.Tests.{eqb-true, eqb-false, eq-eqb, ne_eqb}
use Rattle.model.proofs.Tests.{by_cases}
use Rattle.limits.specs.Refusals.{settled}
use Rattle.limits.specs.declared.Refusal.{Refusal}
use Rattle.format.specs.Layout.{preamble}
use Rattle.judging.specs.Judged.{events_of, refusal_of}
use Rattle.judging.proofs.FileLaws.{file_asked}
use Rattle.observing.proofs.ObservingExact.{observed_in_exactly}
use Rattle.observing.specs.Observing.{observed_in}
use Rattle.model.specs.Trace.{Trace}
use Rattle.questions.specs.Answers.{Judges, answer_judge, ObservedAs, observed_as, Observes, answer_observed}
use Rattle.questions.specs.Note.{Slice, Part, front, NoteOf, own-note, lent_note, Notes, standing, noted_in, answer_noted, answer_note}
use Rattle.questions.specs.declared.Counts.{Counts}
use Rattle.observing.specs.declared.Observed.{Observed}

pub judge_exactly : (s : List ℕ) (j : Result Counts Refusal) → (answer_judge s ≡ j) ↔ Judges s j
unfolding answer_judge
judge_exactly s j = file_asked s (λ g x. Iff.rfl) j

module _ (t : Trace) (k : ℕ) where
  seen : (o : Result Observed Refusal) → Ok (observed_in t k) ≡ o → ObservedAs t k o
  seen o e = rw e at (observed_as ((observed_in_exactly t k (observed_in t k)).0 refl))

  told : (o : Result Observed Refusal) → ObservedAs t k o → Ok (observed_in t k) ≡ o
  told o (observed_as {o = x} p) = ap Ok ((observed_in_exactly t k x).1 p)

pub observed_exactly : (s : List ℕ) (k : ℕ) (o : Result Observed Refusal) → (answer_observed s k ≡ o) ↔ Observes s k o
unfolding answer_observed
observed_exactly s k o = file_asked s (λ g x. (seen (events_of s) k x, told (events_of s) k x)) o

-- ---- question 6

no_bytes : (l : List ℕ) → length l ≡ 0 → l ≡ []
no_bytes [] e = refl
no_bytes (x ∷ l) e = absurd (omega arith)

module _ (file operator : Slice) where
  abbrev note_of : Part
  note_of = standing file operator (noted_in file.now)

  noted : NoteOf file operator note_of
  unfolding preamble
  noted =
      by_cases (eqb (length (preamble file.now)) 0)
      (λ z. rw z (lent_note (no_bytes (preamble file.now) (eqb-true _ _ z))))
      (λ z. rw z (own-note (λ e. eqb-false (length (preamble file.now)) 0 z (ap length e))))

  returned : (p : Part) → NoteOf file operator p → note_of ≡ p
  unfolding preamble
  returned p (own-note n) = rw (ne_eqb (length (preamble file.now)) 0 (λ z. n (no_bytes (preamble file.now) z)))
  returned p (lent_note e) = rw (eq-eqb (length (preamble file.now)) 0 (ap length e))

  by_refusal : (o : Option Refusal) → standing file operator (settled (λ r. Some 0) (noted_in file.now) o) ≡ settled (λ r. front 0 file) note_of o
  by_refusal none = refl
  by_refusal (some r) = refl

  pub note_exactly : (p : Part) → (answer_note file operator ≡ p) ↔ Notes file operator p
  unfolding answer_note answer_noted
  note_exactly p = rw (by_refusal (refusal_of file.now)) (file_asked file.now (λ g q. ((λ e. rw e at noted), returned q)) p)
