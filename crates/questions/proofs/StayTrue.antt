-- Demand 3 of the answers to questions 3 and 5: one theorem over a file, an extension's file and a pair.
use Prim.Native.Nat.{ℕ}
use native.Mathlib.Omega.{arith}
use mathlib.Core.Path.{◌≡◌, refl, sym, ◌∙◌, ap}
use mathlib.Core.Option.{Option, none, some}
use mathlib.Core.List.{List}
use lib.ListN.{length, take}
use Rattle.model.specs.Lists.{TwoThreads}
use Rattle.model.proofs.Lists.{front_taken}
use Rattle.decision.specs.Decision.{witness}
use Rattle.decision.specs.StaysTrue.{AnswersStay}
use Rattle.model.proofs.Agree.{extended_conflicting}
use Rattle.decision.proofs.StaysTrue.{answers_stay}
use Rattle.model.specs.Race.{Conflicting}
use Rattle.model.proofs.RowsExact.{quiet_both, both_quiet}
use Rattle.limits.specs.Refusals.{refuses, answers}
use Rattle.judging.specs.Judged.{IsGoodFile, rows_of_file, events_of}
use Rattle.judging.proofs.FileLaws.{quiet_file}
use Rattle.races.specs.Witness.{list_with}
use Rattle.verdicts.specs.Verdict.{cleared, finding}
use Rattle.questions.specs.Verdicts.{verdict_rows, Verdict, answer_verdict, reordering_rows, check_yes, answer_check}
use Rattle.questions.specs.AnswersStayTrue.{Extends, verdict_on, list_after, NotRefused, SameAnswer, DemandThree}
use Rattle.std.specs.Prelude.{Option as RustOption, None, Some, Result, Ok}
use Rattle.limits.specs.declared.Refusal.{Refusal}
use Rattle.questions.proofs.VerdictsExact.{surely_conflicting, told, verdict_exactly, check_reordering_exactly}

-- an answer of question 3
abbrev Answer : Type 0
Answer = Result (RustOption ℕ) Refusal

abbrev found : Option (List ℕ) → Answer
found o = Ok (finding o)

reported-length : (o : Option (List ℕ)) (n : ℕ) → found o ≡ Ok (Some n) → (ρ : List ℕ) × (o ≡ some ρ) × (n ≡ length ρ)
reported-length none n e = let z : ◌≡◌ {A = ℕ} 0 1 = cc in absurd (omega arith)
reported-length (some ρ) n e = (ρ, refl, cc)

-- an asking that is not refused
record VerdictAsked (s : List ℕ) (a b : ℕ) (list area : List ℕ) : Type 0 where
  file : IsGoodFile s
  conflicting : Conflicting (events_of s) a b
  is : answer_verdict s a b list area ≡ (found (witness (events_of s) a b), list_with (witness (events_of s) a b) list, cleared area)

module _ (s : List ℕ) (a b : ℕ) (list area : List ℕ) where
  by_answer : {x : Answer × List ℕ × List ℕ} → Verdict s a b list area x → answer_verdict s a b list area ≡ x → NotRefused x.0 → VerdictAsked s a b list area
  by_answer (refuses {r} f) e n = absurd (n r refl)
  by_answer (answers q m) e n =
      let p = both_quiet (rows_of_file s) (verdict_rows (events_of s) a b list area) q in
      let g = (quiet_file s).0 p.0 in
      let c = surely_conflicting (events_of s) a b p.1.0 in
      record { file = g; conflicting = c; is = e ∙ sym (told (events_of s) a b list area g.good.well_formed c _ m) }

  asked : NotRefused (verdict_on s a b list area) → VerdictAsked s a b list area
  asked n = by_answer ((verdict_exactly s a b list area (answer_verdict s a b list area)).0 refl) refl n

  module _ (q : VerdictAsked s a b list area) where
    finding_is : (o : Option (List ℕ)) → witness (events_of s) a b ≡ o → verdict_on s a b list area ≡ found o
    finding_is o w = ap (λ (x : Answer × List ℕ × List ℕ). x.0) q.is ∙ ap found w

    front_is : (ρ : List ℕ) → witness (events_of s) a b ≡ some ρ → take (length ρ) (list_after s a b list area) ≡ ρ
    front_is ρ w =
        ap (λ (x : Answer × List ℕ × List ℕ). take (length ρ) x.1) q.is ∙ ap (λ (o : Option (List ℕ)). take (length ρ) (list_with o list)) w ∙ front_taken ρ list

  -- a reported pair: its witness, in front of the lent list
  record Shows (n : ℕ) : Type 0 where
    asked_of : VerdictAsked s a b list area
    ρ : List ℕ
    is : witness (events_of s) a b ≡ some ρ
    long : n ≡ length ρ
    front : take n (list_after s a b list area) ≡ ρ

  reported_refused : (n : ℕ) → verdict_on s a b list area ≡ Ok (Some n) → NotRefused (verdict_on s a b list area)
  reported_refused n e r f = let d = sym e ∙ f in let z : ◌≡◌ {A = ℕ} 0 1 = cc in omega arith

  shows : (n : ℕ) → verdict_on s a b list area ≡ Ok (Some n) → Shows n
  shows n e =
      let q = asked (reported_refused n e) in
      let x = reported-length (witness (events_of s) a b) n (sym (finding_is q (witness (events_of s) a b) refl) ∙ e) in
      record { asked_of = q; ρ = x.0; is = x.1; long = x.2; front = ap (λ (k : ℕ). take k (list_after s a b list area)) x.2 ∙ front_is q x.0 x.1 }

module _ (s s' : List ℕ) (ext : Extends s s') (a b : ℕ) (list area list' area' : List ℕ) where
  stays : VerdictAsked s a b list area → AnswersStay (events_of s) (events_of s') a b
  stays q = answers_stay (events_of s) (events_of s') q.file.good ext.extension a b q.conflicting

  same : TwoThreads (events_of s) → VerdictAsked s a b list area → VerdictAsked s' a b list' area' → SameAnswer s s' a b list area list' area'
  same two q q' =
      let t = (stays q).two_threads two in
      let w = t.same_answer in
      let f = finding_is s a b list area q (witness (events_of s) a b) refl in record {
        exact = (
          (λ x. let y = shows s a b list area x.0 x.1 in t.exact_answer.0 (y.ρ, y.is)),
          (λ p. let y = t.exact_answer.1 p in (length y.0, finding_is s a b list area q (some y.0) y.1)),
        );
        same_verdict = finding_is s' a b list' area' q' (witness (events_of s) a b) w ∙ sym f;
        same_numbers = λ n e.
            let y = shows s a b list area n e in
            ap (λ (k : ℕ). take k (list_after s' a b list' area')) y.long ∙ front_is s' a b list' area' q' y.ρ (w ∙ y.is) ∙ sym y.front;
      }

  yes : (n : ℕ) → verdict_on s a b list area ≡ Ok (Some n) → answer_check s' a b (take n (list_after s a b list area)) ≡ Ok None
  yes n e =
      let y = shows s a b list area n e in
      let q = y.asked_of in
      let c = extended_conflicting (events_of s) (events_of s') ext.extension a b q.conflicting in
      rw y.front ((check_reordering_exactly s' a b y.ρ (Ok None)).1
      (answers (quiet_both (rows_of_file s') (reordering_rows (events_of s') a b) ((quiet_file s').1 ext.file) ((λ n. n c), tt)) (check_yes ((stays q).answer_stays y.ρ y.is).0)))

pub answers_stay_true : DemandThree
answers_stay_true s s' ext a b list area list' area' = record {
  two_threads = λ two n n'. same s s' ext a b list area list' area' two (asked s a b list area n) (asked s' a b list' area' n');
  check_says_yes = yes s s' ext a b list area list' area';
}
