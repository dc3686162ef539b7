-- Questions 3, 4 and 5: the verdict on a pair, the next race, and the check of a proposed list. What is lent is settled with the answer.
use Rattle.std.specs.Prelude.{ℕ, ◌<◌, Option, Some, None, Result, Ok, Err, List, [], ◌∷◌, ◌++◌, length}
use Rattle.model.specs.Trace.{Trace}
use Rattle.model.specs.Reordering.{BringsBoth}
use Rattle.model.specs.Race.{Conflicting, Reported, Witness}
use Rattle.model.specs.Check.{CheckAnswer}
use Rattle.model.specs.Listing.{Race, RaceOf, pair_of, After, FirstAfter}
use Rattle.limits.specs.Limits.{area_bytes}
use Rattle.limits.specs.Refusals.{Asked}
use Rattle.judging.specs.Judged.{events_of, refusal_of, rows_of_file}
use Rattle.model.specs.Lists.{in_front, pair}
use Rattle.model.specs.Rows.{Row, row, nothing}
use Rattle.verdicts.specs.Verdict.{cleared, verdict_in}
use Rattle.verdicts.specs.Next.{next_in}
use Rattle.limits.specs.declared.Refusal.{Refusal}
use Rattle.verdicts.specs.declared.Pair.{Pair}
use Rattle.checking.specs.Checking.{check_in}
use Rattle.checking.specs.Faults.{number_of}
use Rattle.checking.specs.declared.Fault.{Fault}

-- ---- question 3

-- the rows after those of the file
abbrev pub verdict_rows : Trace → ℕ → ℕ → List ℕ → List ℕ → List Row
verdict_rows t a b list area = row 11 nothing (¬ Conflicting t a b) ∷ row 10 nothing (length list < length t) ∷ row 12 nothing (length area < area_bytes) ∷ []

-- what each answer means, with the lent list and the work area after it
pub data VerdictOf (t : Trace) (a b : ℕ) (list area : List ℕ) : Result (Option ℕ) Refusal × List ℕ × List ℕ → Type 0 where
  reported : {ρ : List ℕ} → Witness t a b ρ → VerdictOf t a b list area (Ok (Some (length ρ)), in_front ρ list, cleared area)
  not-reported : ¬ Reported t a b → VerdictOf t a b list area (Ok None, list, cleared area)

-- a refusal changes nothing
abbrev pub Verdict : List ℕ → ℕ → ℕ → List ℕ → List ℕ → Result (Option ℕ) Refusal × List ℕ × List ℕ → Type 0
Verdict s a b list area x = Asked (rows_of_file s ++ verdict_rows (events_of s) a b list area) (λ r. (Err r, list, area)) (VerdictOf (events_of s) a b list area) x

-- computed
unfoldable pub answer_verdict : List ℕ → ℕ → ℕ → List ℕ → List ℕ → Result (Option ℕ) Refusal × List ℕ × List ℕ
answer_verdict s a b list area = verdict_in (refusal_of s) (events_of s) a b list area

-- ---- question 4

abbrev pub next_rows : List ℕ → List Row
next_rows area = row 12 nothing (length area < area_bytes) ∷ []

-- what each answer means, with the work area after it
pub data NextOf (t : Trace) (a b : ℕ) (area : List ℕ) : Result (Option Pair) Refusal × List ℕ → Type 0 where
  next-race : {x : Race} → FirstAfter pair_of (RaceOf t) (pair a b) x → NextOf t a b area (Ok (Some (record { lower = x.lower; higher = x.higher })), cleared area)
  no_race : ((x : Race) → RaceOf t x → ¬ After (pair a b) (pair_of x)) → NextOf t a b area (Ok None, cleared area)

abbrev pub NextAfter : List ℕ → ℕ → ℕ → List ℕ → Result (Option Pair) Refusal × List ℕ → Type 0
NextAfter s a b area x = Asked (rows_of_file s ++ next_rows area) (λ r. (Err r, area)) (NextOf (events_of s) a b area) x

-- computed
unfoldable pub answer_next : List ℕ → ℕ → ℕ → List ℕ → Result (Option Pair) Refusal × List ℕ
answer_next s a b area = next_in (refusal_of s) (events_of s) a b area

-- ---- question 5

abbrev pub reordering_rows : Trace → ℕ → ℕ → List Row
reordering_rows t a b = row 11 nothing (¬ Conflicting t a b) ∷ []

-- what each answer means, for any list: none for yes, or the fault
pub data CheckOf (t : Trace) (a b : ℕ) (list : List ℕ) : Result (Option Fault) Refusal → Type 0 where
  check_yes : BringsBoth t list a b → CheckOf t a b list (Ok None)
  check_no : {f : Fault} → CheckAnswer t a b list (number_of f) → CheckOf t a b list (Ok (Some f))

abbrev pub Checks : List ℕ → ℕ → ℕ → List ℕ → Result (Option Fault) Refusal → Type 0
Checks s a b list x = Asked (rows_of_file s ++ reordering_rows (events_of s) a b) Err (CheckOf (events_of s) a b list) x

-- computed
unfoldable pub answer_check : List ℕ → ℕ → ℕ → List ℕ → Result (Option Fault) Refusal
answer_check s a b list = check_in (refusal_of s) (events_of s) a b list
