-- What reading says of a written file, and what the writer answers, each exactly in its case.
use Prim.Native.Nat.{ℕ, ◌≤◌, ◌<◌}
use native.Mathlib.Omega.{arith}
use mathlib.Core.Path.{◌≡◌, refl, subst}
use mathlib.Core.Logic.Iff
use mathlib.Core.Logic.{inl, inr, ⊎_elim, ◌↔◌}
use mathlib.Core.Option.{Option, none, some}
use mathlib.Core.Bool.{not}
use mathlib.Core.List.{List, [], ◌∷◌, ◌++◌}
use lib.ListN.{length, drop}
use lib.Dec.{ltb}
use borrow.Author.Tests.{ltb-true, lt-ltb}
use Rattle.model.specs.Trace.{Trace}
use Rattle.model.specs.Good.{max_events}
use Rattle.model.specs.Refusals.{trace_rows}
use Rattle.model.specs.Rows.{row, nothing, Answer, First, first, either}
use Rattle.model.proofs.RowsExact.{not_exactly, tests_first, append-first}
use Rattle.limits.specs.Refusals.{paper}
use Rattle.limits.proofs.PaperLaws.{refused_exactly, asked_exactly}
use Rattle.limits.specs.declared.Refusal.TheVariants.{ListShort}
use Rattle.limits.specs.declared.Refusal.{Refusal}
use Rattle.format.specs.Layout.{count, preamble, Sized}
use Rattle.format.specs.Readable.{Readable}
use Rattle.judging.specs.Judged.{file_rows, file_refusal, rows_of_file}
use Rattle.judging.proofs.JudgedExact.{file_first, file_exactly}
use Rattle.judging.proofs.FileLaws.{question_first}
use Rattle.writing.specs.Written.{written, written_bytes, Even}
use Rattle.writing.proofs.SizeLaws.{written-length}
use Rattle.writing.proofs.ReadsBack.{count_back, marked_back, pointed_back, reads_back}
use Rattle.writing.specs.Writing.{NotTooLong, write_rows, WriteAnswer, file_from, Writes, is_even, hand_refusal, answer_write}
use Rattle.std.specs.Prelude.{Result}
use Rattle.writing.proofs.WriteLaws.{even_true, true_even}

-- ---- a written file

module _ (z : ℕ) (h : 4 ≤ z) (p : List ℕ) (t : Trace) where
  fits_of : Sized (written z p t) → NotTooLong z p t
  fits_of s = let m = s.most in let e = written-length z h p t in omega arith

  sized_of : NotTooLong z p t → Sized (written z p t)
  unfolding written_bytes
  sized_of f = let e = written-length z h p t in record { least = omega arith; most = omega arith }

  few_of : count (written z p t) ≤ max_events → length t ≤ max_events
  few_of f = let e = count_back z h p t in omega arith

  few_back : length t ≤ max_events → count (written z p t) ≤ max_events
  few_back f = let e = count_back z h p t in omega arith

  -- the rows of the file answer as those of what was handed in
  by_rows : (o : Option Answer) → First (file_rows z (written z p t)) o → First (write_rows z p t) o
  by_rows o f = ⊎_elim (λ x. inl ((λ n. x.0 (sized_of n)), x.1)) (λ x. inr ((λ n. x.0 (λ s. n (fits_of s))), marked x.1)) f
    where
      readable : First (drop 4 (file_rows z (written z p t))) o → First (drop 2 (write_rows z p t)) o
      readable f =
          let F : List ℕ → Trace → Type 0 = λ q u. First (row 13 nothing (¬ Readable q) ∷ trace_rows u) o in
          let b = reads_back z h p t in
          subst (λ (q : List ℕ). F q t) b.same_preamble (subst (λ (u : Trace). F (preamble (written z p t)) u) b.same_events f)

      pointed : First (drop 3 (file_rows z (written z p t))) o → First (drop 2 (write_rows z p t)) o
      pointed f = ⊎_elim (λ x. absurd (x.0 (pointed_back z h p t))) (λ x. readable x.1) f

      marked : First (drop 1 (file_rows z (written z p t))) o → First (drop 1 (write_rows z p t)) o
      marked f =
          ⊎_elim (λ x. absurd (x.0 (marked_back z h p t)))
          (λ x. ⊎_elim (λ y. inl ((λ n. y.0 (few_back n)), y.1)) (λ y. inr ((λ n. y.0 (λ c. n (few_of c))), pointed y.1)) x.1) f

  -- what reading a written file gives, by what was handed in
  pub written_exactly : (o : Option Refusal) → (file_refusal z (written z p t) ≡ o) ↔ WriteAnswer z p t o
  written_exactly (some r) = refused_exactly (write_rows z p t) (file_refusal z (written z p t)) (by_rows _ (file_first z h (written z p t))) r
  written_exactly none =
      let x = file_exactly z h (written z p t) none in (
        (λ e.
            let g = x.0 e in record {
              fits = fits_of g.layout.sized;
              readable = rw (reads_back z h p t).same_preamble at g.layout.readable;
              good = rw (reads_back z h p t).same_events at g.good;
            }),
        (λ w. x.1 (record {
          layout = record {
            sized = sized_of w.fits;
            marked = marked_back z h p t;
            few = few_back w.good.size;
            pointed = pointed_back z h p t;
            readable = rw (reads_back z h p t).same_preamble w.readable;
          };
          good = rw (reads_back z h p t).same_events w.good;
        })),
      )

-- ---- the writer's answer

-- each answer, with the buffer after it, exactly in its case
pub write_exactly : (p threads kinds objects buffer : List ℕ) (w : Result ℕ Refusal × List ℕ) → (answer_write p threads kinds objects buffer ≡ w) ↔ Writes p threads kinds objects buffer w
unfolding answer_write
write_exactly p threads kinds objects buffer w =
    let file = file_from p threads kinds objects in
    let before = row 10 nothing (¬ Even threads kinds objects) ∷ [] in
    let after = row 10 nothing (length buffer < length file) ∷ [] in
    let uneven = not (is_even threads kinds objects) ∷ [] in
    asked_exactly (λ q x. Iff.rfl) (either (first uneven (ListShort ∷ [])) (hand_refusal file buffer))
    (append-first paper before (rows_of_file file ++ after) (first uneven (ListShort ∷ [])) (hand_refusal file buffer)
    (tests_first paper uneven (ListShort ∷ []) before (not_exactly (even_true threads kinds objects) (true_even threads kinds objects), tt) refl)
    (question_first file after (ltb (length buffer) (length file) ∷ []) (ListShort ∷ []) ((ltb-true (length buffer) (length file), lt-ltb (length buffer) (length file)), tt) refl)) w
