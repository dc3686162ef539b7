-- Questions 1 and 2. Every question judges the file first, and gives its refusal if it has one.
use Rattle.std.specs.Prelude.{ℕ, ◌≡◌, List, length, Result, Ok, Err}
use Rattle.model.specs.Trace.{Trace}
use Rattle.model.specs.Lists.{threads}
use Rattle.limits.specs.Refusals.{Asked, settled}
use Rattle.judging.specs.Judged.{events_of, refusal_of, rows_of_file}
use Rattle.limits.specs.declared.Refusal.{Refusal}
use Rattle.questions.specs.declared.Counts.{Counts}
use Rattle.observing.specs.Observing.{ObservedOf, observed_in}
use Rattle.observing.specs.declared.Observed.{Observed}

-- ---- question 1

-- good, with the number of events and how many different threads have one
abbrev pub good_with : Trace → Counts
good_with t = record { events = length t; threads = length (threads t) }

-- what each answer means
abbrev pub Judges : List ℕ → Result Counts Refusal → Type 0
Judges s j = Asked (rows_of_file s) Err (λ j. Ok (good_with (events_of s)) ≡ j) j

-- computed
unfoldable pub answer_judge : List ℕ → Result Counts Refusal
answer_judge s = settled Err (Ok (good_with (events_of s))) (refusal_of s)

-- ---- question 2

-- what each answer means, where the file is not refused
pub data ObservedAs (t : Trace) (k : ℕ) : Result Observed Refusal → Type 0 where
  observed_as : {o : Observed} → ObservedOf t k o → ObservedAs t k (Ok o)

abbrev pub Observes : List ℕ → ℕ → Result Observed Refusal → Type 0
Observes s k o = Asked (rows_of_file s) Err (ObservedAs (events_of s) k) o

-- computed
unfoldable pub answer_observed : List ℕ → ℕ → Result Observed Refusal
answer_observed s k = settled Err (Ok (observed_in (events_of s) k)) (refusal_of s)
