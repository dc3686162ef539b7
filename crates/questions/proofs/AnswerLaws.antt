-- The ways through the questions: a file is refused, or its table is asked.
use Prim.Native.Nat.{ℕ}
use mathlib.Core.Path.{◌≡◌, ap}
use mathlib.Core.Option.{none}
use mathlib.Core.List.{List}
use lib.ListN.{length, take}
use mir.Syntax.{w16}
use mir.Val.{Fits}
use native.Mathlib.Omega.{arith}
use Rattle.std.specs.Prelude.{Option as RustOption, Result, Ok, Err}
use Rattle.model.specs.Lists.{threads}
use Rattle.judging.specs.Judged.{events_of, refusal_of}
use Rattle.table.specs.Table.{trace}
use Rattle.opening.specs.Opening.{Opens}
use Rattle.opening.proofs.OpenLaws.{refused_by, opened_clean, opened_within, opened_linked, opened_trace}
use Rattle.limits.specs.declared.Refusal.{Refusal}
use Rattle.observing.specs.Observing.{observed_in}
use Rattle.observing.specs.Entries.{observations_in}
use Rattle.verdicts.specs.Verdict.{verdict_in}
use Rattle.verdicts.specs.Next.{next_in}
use Rattle.checking.specs.Checking.{check_in}
use Rattle.questions.specs.Answers.{answer_judge, answer_observed}
use Rattle.questions.specs.Observations.{answer_observations}
use Rattle.questions.specs.Verdicts.{answer_verdict, answer_next, answer_check}
use Rattle.observing.specs.declared.Observed.{Observed}
use Rattle.verdicts.specs.declared.Pair.{Pair}
use Rattle.checking.specs.declared.Fault.{Fault}

module _ (s : List ℕ) {area area' : List ℕ} where
  module _ {r : Refusal} (o : Opens (refusal_of s) (events_of s) area area' (Err r)) where
    pub refused_judgement : Err r ≡ answer_judge s
    unfolding answer_judge
    refused_judgement = rw (refused_by o)

    pub refused_observed : (k : ℕ) → Err r ≡ answer_observed s k
    unfolding answer_observed
    refused_observed k = rw (refused_by o)

    pub refused_observations : (l : List ℕ) → (Err r, l) ≡ answer_observations s l
    unfolding answer_observations observations_in
    refused_observations l = rw (refused_by o)

    pub refused_verdict : (a b : ℕ) (list work : List ℕ) → (Err r, list, work) ≡ answer_verdict s a b list work
    unfolding answer_verdict verdict_in
    refused_verdict a b list work = rw (refused_by o)

    pub refused_next : (a b : ℕ) (work : List ℕ) → (Err r, work) ≡ answer_next s a b work
    unfolding answer_next next_in
    refused_next a b work = rw (refused_by o)

    pub refused_check : (a b : ℕ) (list : List ℕ) → Err r ≡ answer_check s a b list
    unfolding answer_check check_in
    refused_check a b list = rw (refused_by o)

  module _ {n : ℕ} (o : Opens (refusal_of s) (events_of s) area area' (Ok n)) where
    -- the number of events is a u16
    pub number_fits : (k : ℕ) → k ≡ length (trace (take n area')) → Fits w16 k
    number_fits k e = let z = (opened_linked o).good.size in record { fits = omega arith }

    pub good_judgement : (k m : ℕ) → k ≡ length (trace (take n area')) → m ≡ length (threads (trace (take n area'))) → Ok (record { events = k; threads = m }) ≡ answer_judge s
    unfolding answer_judge
    good_judgement k m ek em = rw (opened_clean o, ek, em, opened_trace o)

    pub good-observed : (k : ℕ) (y : Observed) → y ≡ observed_in (trace (take n area')) k → Ok y ≡ answer_observed s k
    unfolding answer_observed
    good-observed k y c = rw (opened_clean o, ← opened_trace o) (ap Ok c)

    pub good_observations : (l : List ℕ) (y : Result ℕ Refusal × List ℕ) → y ≡ observations_in none (trace (take n area')) l → y ≡ answer_observations s l
    unfolding answer_observations
    good_observations l y c = rw (opened_clean o, ← opened_trace o) c

    pub good_verdict : (a b : ℕ) (list work : List ℕ) (y : Result (RustOption ℕ) Refusal × List ℕ × List ℕ) → y ≡ verdict_in none (trace (take n area')) a b list work → y ≡ answer_verdict s a b list work
    unfolding answer_verdict
    good_verdict a b list work y c = rw (opened_clean o, ← opened_trace o) c

    pub good-next : (a b : ℕ) (work : List ℕ) (y : Result (RustOption Pair) Refusal × List ℕ) → y ≡ next_in none (trace (take n area')) a b work → y ≡ answer_next s a b work
    unfolding answer_next
    good-next a b work y c = rw (opened_clean o, ← opened_trace o) c

    pub good-check : (a b : ℕ) (list : List ℕ) (y : Result (RustOption Fault) Refusal) → y ≡ check_in none (trace (take n area')) a b list → y ≡ answer_check s a b list
    unfolding answer_check
    good-check a b list y c = rw (opened_clean o, ← opened_trace o) c

-- what each question's function stands on
pub ruleset asked = (opened_within, opened_linked, number_fits, refused_judgement, good_judgement, refused_observed, good-observed, refused_observations, good_observations, refused_verdict, good_verdict, refused_next, good-next, refused_check)
