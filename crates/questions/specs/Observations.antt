-- Question 2 for all events at once: the answer, and the lent list after it.
use Rattle.std.specs.Prelude.{ℕ, ◌≤◌, ◌≡◌, cond, List, [], ◌∷◌, ◌++◌, length, get_or, leb, Result, Ok, Err}
use Rattle.model.specs.Trace.{Trace}
use Rattle.model.specs.Rows.{Row, row, nothing}
use Rattle.limits.specs.Refusals.{Asked}
use Rattle.judging.specs.Judged.{events_of, refusal_of, rows_of_file}
use Rattle.observing.specs.Entries.{answer_of, ObservationsOf, observations_in}
use Rattle.limits.specs.declared.Refusal.{Refusal}
use Rattle.observing.specs.declared.Observed.TheVariants.{NotARead}
use Rattle.questions.specs.Answers.{answer_observed}

-- the rows after those of the file
abbrev pub entry_rows : Trace → List ℕ → List Row
entry_rows t l = row 10 nothing (length l ≤ length t) ∷ []

-- what each answer means; a refusal leaves the list as it was
abbrev pub ObservesAll : List ℕ → List ℕ → Result ℕ Refusal × List ℕ → Type 0
ObservesAll s l o = Asked (rows_of_file s ++ entry_rows (events_of s) l) (λ r. (Err r, l)) (ObservationsOf (events_of s) l) o

-- computed
unfoldable pub answer_observations : List ℕ → List ℕ → Result ℕ Refusal × List ℕ
answer_observations s l = observations_in (refusal_of s) (events_of s) l

-- its entries are question 2's answers one by one, and what has none is not a read
abbrev pub OneByOne : List ℕ → Result ℕ Refusal × List ℕ → Type 0
OneByOne s (Err r, l) = Unit {0}
OneByOne s (Ok n, l) = (k : ℕ) → answer_observed s k ≡ Ok (cond (leb k n) (answer_of (get_or l k 0)) NotARead)
