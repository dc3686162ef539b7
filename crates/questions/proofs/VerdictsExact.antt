-- Each answer to questions 3, 4 and 5 is given exactly in its case.
use Prim.Native.Nat.{ℕ}
use mathlib.Core.Path.{◌≡◌, refl, sym, ◌∙◌, ap}
use mathlib.Core.Logic.{◌↔◌}
use mathlib.Core.Bool.{true, not}
use mathlib.Core.Option.{Option, none, some, none-ne-some}
use mathlib.Core.List.{List, [], ◌∷◌}
use lib.ListN.{length}
use borrow.Author.Tests.{ltb-true, lt-ltb}
use Rattle.model.specs.Trace.{Trace}
use Rattle.model.specs.Good.{WellFormed}
use Rattle.model.specs.Race.{Conflicting, Reported}
use Rattle.model.specs.Listing.{Race}
use Rattle.model.specs.Rows.{Tested}
use Rattle.decision.specs.Check.{check}
use Rattle.decision.specs.Decision.{witness, is_conflicting, next_race}
use Rattle.model.proofs.RowsExact.{not_exactly, surely}
use Rattle.decision.proofs.CheckExact.{check_exactly, yes_exactly}
use Rattle.decision.proofs.ListingExact.{witness_exactly, reported-answered, conflicting_exactly, next_exactly, next-none}
use Rattle.limits.specs.Limits.{is_area_size}
use Rattle.limits.proofs.LimitLaws.{area_short}
use Rattle.limits.specs.declared.Refusal.TheVariants.{ListShort, NotConflicting, AreaShort}
use Rattle.judging.proofs.FileLaws.{question_asked}
use Rattle.races.specs.Witness.{list_with}
use Rattle.verdicts.specs.Verdict.{cleared, verdict_tests, finding, verdict_in}
use Rattle.verdicts.specs.Next.{next, next_in}
use Rattle.checking.specs.Checking.{check_in}
use Rattle.checking.proofs.FaultLaws.{checked_exactly}
use Rattle.judging.specs.Judged.{events_of}
use Rattle.questions.specs.Verdicts.{verdict_rows, VerdictOf, reported, not-reported, Verdict, answer_verdict, next_rows, NextOf, next-race, no_race, NextAfter, answer_next, reordering_rows, CheckOf, check_yes, check_no, Checks, answer_check}
use Rattle.std.specs.Prelude.{Option as RustOption, None, Some, Result, Ok}
use Rattle.limits.specs.declared.Refusal.{Refusal}
use Rattle.verdicts.specs.declared.Pair.{Pair}
use Rattle.checking.specs.Faults.{number_of, checked}
use Rattle.checking.specs.declared.Fault.{Fault}

-- ---- on events

module _ (t : Trace) (a b : ℕ) where
  conflicting_tested : (not (is_conflicting t a b) ≡ true) ↔ ¬ Conflicting t a b
  conflicting_tested = not_exactly (conflicting_exactly t a b).0 (conflicting_exactly t a b).1

  pub surely_conflicting : ¬ ¬ Conflicting t a b → Conflicting t a b
  surely_conflicting = surely (conflicting_exactly t a b).0 (conflicting_exactly t a b).1

  module _ (list area : List ℕ) where
    verdict_tested : Tested (verdict_tests t a b list area) (verdict_rows t a b list area)
    verdict_tested = (conflicting_tested, ((ltb-true (length list) (length t), lt-ltb (length list) (length t)), (area_short (length area), tt)))

    module _ (w : WellFormed t) (c : Conflicting t a b) where
      given : (o : Option (List ℕ)) → witness t a b ≡ o → VerdictOf t a b list area (Ok (finding o), list_with o list, cleared area)
      given (some ρ) e = reported ((witness_exactly t w a b c ρ).0 e)
      given none e = not-reported (λ p. let x = (reported-answered t w a b c).0 p in none-ne-some _ (sym e ∙ x.1))

      no-witness : ¬ Reported t a b → (o : Option (List ℕ)) → witness t a b ≡ o → o ≡ none
      no-witness n none e = refl
      no-witness n (some ρ) e = absurd (n ((reported-answered t w a b c).1 (ρ, e)))

      pub told : (x : Result (RustOption ℕ) Refusal × List ℕ × List ℕ) → VerdictOf t a b list area x → (Ok (finding (witness t a b)), list_with (witness t a b) list, cleared area) ≡ x
      told x (reported {ρ} p) = rw ((witness_exactly t w a b c ρ).1 p)
      told x (not-reported n) = rw (no-witness n (witness t a b) refl)

  module _ (w : WellFormed t) (area : List ℕ) where
    next-given : (o : Option Race) → next_race t a b ≡ o → NextOf t a b area (Ok (next o), cleared area)
    next-given none e = no_race ((next-none t w a b).0 e)
    next-given (some x) e = next-race ((next_exactly t w a b x).0 e)

    next-told : (x : Result (RustOption Pair) Refusal × List ℕ) → NextOf t a b area x → (Ok (next (next_race t a b)), cleared area) ≡ x
    next-told x (next-race {x = y} f) = rw ((next_exactly t w a b y).1 f)
    next-told x (no_race f) = rw ((next-none t w a b).1 f)

  module _ (list : List ℕ) where
    check-given : (o : RustOption Fault) → checked (check t a b list) ≡ o → CheckOf t a b list (Ok o)
    check-given None e = check_yes ((yes_exactly t a b list).0 ((checked_exactly t a b list None).0 e))
    check-given (Some f) e = check_no ((check_exactly t a b list (number_of f)).0 ((checked_exactly t a b list (Some f)).0 e))

    check-told : (x : Result (RustOption Fault) Refusal) → CheckOf t a b list x → Ok (checked (check t a b list)) ≡ x
    check-told x (check_yes y) = ap Ok ((checked_exactly t a b list None).1 ((yes_exactly t a b list).1 y))
    check-told x (check_no {f} y) = ap Ok ((checked_exactly t a b list (Some f)).1 ((check_exactly t a b list (number_of f)).1 y))

-- ---- on a file's bytes

module _ (s : List ℕ) (a b : ℕ) where
  pub verdict_exactly : (list area : List ℕ) (x : Result (RustOption ℕ) Refusal × List ℕ × List ℕ) → (answer_verdict s a b list area ≡ x) ↔ Verdict s a b list area x
  unfolding answer_verdict verdict_in
  verdict_exactly list area x =
      let t = events_of s in
      question_asked s (verdict_rows t a b list area) (verdict_tests t a b list area) (NotConflicting ∷ ListShort ∷ AreaShort ∷ []) (verdict_tested t a b list area) refl
      (λ g q y.
      let c = surely_conflicting t a b q.0 in
      ((λ e. rw e at (given t a b list area g.good.well_formed c (witness t a b) refl)), told t a b list area g.good.well_formed c y)) x

  pub next-race_exactly : (area : List ℕ) (x : Result (RustOption Pair) Refusal × List ℕ) → (answer_next s a b area ≡ x) ↔ NextAfter s a b area x
  unfolding answer_next next_in
  next-race_exactly area x =
      let t = events_of s in
      question_asked s (next_rows area) (not (is_area_size (length area)) ∷ []) (AreaShort ∷ []) (area_short (length area), tt) refl
      (λ g q y. ((λ e. rw e at (next-given t a b g.good.well_formed area (next_race t a b) refl)), next-told t a b g.good.well_formed area y)) x

  pub check_reordering_exactly : (list : List ℕ) (x : Result (RustOption Fault) Refusal) → (answer_check s a b list ≡ x) ↔ Checks s a b list x
  unfolding answer_check check_in
  check_reordering_exactly list x =
      let t = events_of s in
      question_asked s (reordering_rows t a b) (not (is_conflicting t a b) ∷ []) (NotConflicting ∷ []) (conflicting_tested t a b, tt) refl
      (λ g q y. ((λ e. rw e at (check-given t a b list (checked (check t a b list)) refl)), check-told t a b list y)) x
