-- Question 2 for all events at once: each answer is given exactly in its case, and its entries are question 2's answers one by one.
use native.Mathlib.Omega.{arith}
use Prim.Native.Nat.{ℕ}
use mathlib.Core.Path.{◌≡◌, refl}
use mathlib.Core.Logic.{◌↔◌}
use mathlib.Core.List.{List, [], ◌∷◌}
use lib.ListN.{length, get_or}
use Rattle.std.specs.Prelude.{Result, Ok}
use Rattle.limits.specs.declared.Refusal.{Refusal}
use lib.Dec.{leb}
use borrow.Author.Tests.{leb-true, leb-false, le-leb}
use Rattle.model.proofs.Tests.{by_cases}
use Rattle.model.proofs.RowsExact.{both_quiet}
use Rattle.limits.specs.Refusals.{refuses, answers}
use Rattle.limits.specs.declared.Refusal.TheVariants.{ListShort}
use Rattle.judging.specs.Judged.{events_of, rows_of_file}
use Rattle.judging.proofs.FileLaws.{question_asked}
use Rattle.observing.specs.Observing.{no_read}
use Rattle.observing.specs.Entries.{answer_of, given, observations_in}
use Rattle.observing.proofs.EntriesExact.{given_exactly}
use Rattle.observing.specs.declared.Observed.TheVariants.{NotARead}
use Rattle.questions.specs.Observations.{entry_rows, ObservesAll, answer_observations, OneByOne}
use Rattle.questions.specs.Answers.{observed_as}
use Rattle.questions.proofs.AnswersExact.{observed_exactly}

module _ (s l : List ℕ) where
  pub observations_exactly : (o : Result ℕ Refusal × List ℕ) → (answer_observations s l ≡ o) ↔ ObservesAll s l o
  unfolding answer_observations observations_in
  observations_exactly o =
      let t = events_of s in
      question_asked s (entry_rows t l) (leb (length l) (length t) ∷ []) (ListShort ∷ []) ((leb-true (length l) (length t), le-leb (length l) (length t)), tt) refl
      (λ g q. given_exactly t g.good l (omega (arith, q.0))) o

  each : (o : Result ℕ Refusal × List ℕ) → ObservesAll s l o → OneByOne s o
  each o (refuses p) = tt
  each o (answers q (given {l'} a)) = λ k.
      let f = (both_quiet (rows_of_file s) (entry_rows (events_of s) l) q).0 in
      by_cases (leb k (length (events_of s)))
      (λ e. rw e ((observed_exactly s k (Ok (answer_of (get_or l' k 0)))).1 (answers f (observed_as (a.entry k (leb-true k _ e))))))
      (λ e.
      let h = leb-false k _ e in
      rw e ((observed_exactly s k (Ok NotARead)).1 (answers f (observed_as (no_read (λ r. let b = r.valid.bounded in let y : ⊥ = omega arith in y))))))

  pub one_by_one : OneByOne s (answer_observations s l)
  one_by_one = each (answer_observations s l) ((observations_exactly (answer_observations s l)).0 refl)
