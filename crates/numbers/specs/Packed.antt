-- Each answer as a case and two numbers. A refusal's case is the paper's number; all other cases are numbers from 100 on, and no two answers share one.
-- Beside each the answer that a caller reads out of the parts.
use Rattle.std.specs.Prelude.{ℕ, ◌≡◌, ◌<◌, cond, Option, None, Some, Result, Ok, Err, List, [], ◌∷◌, get_or, eqb}
use Rattle.limits.specs.Refusals.{number_of, event_of}
use Rattle.limits.specs.declared.Refusal.{Refusal}
use Rattle.limits.specs.declared.Refusal.TheVariants.{FileSize, Mark, EventCount, Distance, Kind, Thread, Object, SelfOrSecond, AlreadyBegun, AlreadyJoined, LockHeld, NotHolder, ListShort, NotConflicting, AreaShort, Preamble}
use Rattle.questions.specs.declared.Counts.{Counts}
use Rattle.observing.specs.declared.Observed.{Observed}
use Rattle.observing.specs.declared.Observed.TheVariants.{Write, Start, NotARead}
use Rattle.verdicts.specs.declared.Pair.{Pair}
use Rattle.checking.specs.Faults.{number_of as fault_number, checked}
use Rattle.checking.specs.declared.Fault.{Fault}
use Rattle.numbers.specs.Numbers.{Parts, parts, ReadBack}

-- ---- refusals: the paper's number, and the event's number or 0

abbrev pub event_number : Option ℕ → ℕ
event_number None = 0
event_number (Some k) = k

abbrev pub of_refusal : Refusal → Parts
of_refusal r = parts (number_of r) (event_number (event_of r)) 0

-- the refusals in the order of their numbers, from 0 on; there is none with the number 0 or 14
abbrev pub refusals : ℕ → List Refusal
refusals k =
    FileSize ∷ FileSize ∷ Mark ∷ EventCount ∷ Distance ∷ Kind k ∷ Thread k ∷ Object k ∷ LockHeld k ∷ NotHolder k ∷ ListShort ∷ NotConflicting ∷ AreaShort ∷ Preamble
    ∷ FileSize ∷ SelfOrSecond k ∷ AlreadyBegun k ∷ AlreadyJoined k ∷ []

abbrev pub to_refusal : Parts → Refusal
to_refusal p = get_or (refusals p.first) p.case FileSize

-- ---- the cases

abbrev pub good : ℕ
good = 100

abbrev pub write_seen : ℕ
write_seen = 101

abbrev pub start_seen : ℕ
start_seen = 102

abbrev pub not_aRead : ℕ
not_aRead = 103

abbrev pub given : ℕ
given = 104

abbrev pub reported : ℕ
reported = 105

abbrev pub not_reported : ℕ
not_reported = 106

abbrev pub race : ℕ
race = 107

abbrev pub no_race_found : ℕ
no_race_found = 108

abbrev pub yes : ℕ
yes = 109

abbrev pub no : ℕ
no = 110

abbrev pub note_in_file : ℕ
note_in_file = 111

abbrev pub note_of_operator : ℕ
note_of_operator = 112

abbrev pub written : ℕ
written = 113

-- x where the parts are of this case, and y where they are not
module _ {A : Type 0} where
  abbrev pub in_case : ℕ → Parts → A → A → A
  in_case c p x y = cond (eqb p.case c) x y

-- ---- question 1: how many events, and how many threads

abbrev pub of_judgement : Result Counts Refusal → Parts
of_judgement (Err r) = of_refusal r
of_judgement (Ok c) = parts good c.events c.threads

abbrev pub to_judgement : Parts → Result Counts Refusal
to_judgement p = in_case good p (Ok (record { events = p.first; threads = p.second })) (Err (to_refusal p))

-- ---- question 2: the write; for all events at once how many events have their entry

abbrev pub of_observed : Result Observed Refusal → Parts
of_observed (Err r) = of_refusal r
of_observed (Ok (Write w)) = parts write_seen w 0
of_observed (Ok Start) = parts start_seen 0 0
of_observed (Ok NotARead) = parts not_aRead 0 0

abbrev pub to_observed : Parts → Result Observed Refusal
to_observed p = in_case write_seen p (Ok (Write p.first)) (in_case start_seen p (Ok Start) (in_case not_aRead p (Ok NotARead) (Err (to_refusal p))))

abbrev pub of_observations : Result ℕ Refusal → Parts
of_observations (Err r) = of_refusal r
of_observations (Ok n) = parts given n 0

abbrev pub to_observations : Parts → Result ℕ Refusal
to_observations p = in_case given p (Ok p.first) (Err (to_refusal p))

-- ---- question 3: the length of the witness

abbrev pub of_finding : Result (Option ℕ) Refusal → Parts
of_finding (Err r) = of_refusal r
of_finding (Ok (Some n)) = parts reported n 0
of_finding (Ok None) = parts not_reported 0 0

abbrev pub to_finding : Parts → Result (Option ℕ) Refusal
to_finding p = in_case reported p (Ok (Some p.first)) (in_case not_reported p (Ok None) (Err (to_refusal p)))

-- ---- question 4: the lower and the higher event

abbrev pub of_next : Result (Option Pair) Refusal → Parts
of_next (Err r) = of_refusal r
of_next (Ok (Some x)) = parts race x.lower x.higher
of_next (Ok None) = parts no_race_found 0 0

abbrev pub to_next : Parts → Result (Option Pair) Refusal
to_next p = in_case race p (Ok (Some (record { lower = p.first; higher = p.second }))) (in_case no_race_found p (Ok None) (Err (to_refusal p)))

-- ---- question 5: the number of the fault

-- the answer with the fault's number in place of the fault
abbrev pub by_number : Result (Option Fault) Refusal → Result (Option ℕ) Refusal
by_number (Err r) = Err r
by_number (Ok None) = Ok None
by_number (Ok (Some f)) = Ok (Some (fault_number f))

abbrev pub of_check : Result (Option ℕ) Refusal → Parts
of_check (Err r) = of_refusal r
of_check (Ok None) = parts yes 0 0
of_check (Ok (Some n)) = parts no n 0

abbrev pub to_check : Parts → Result (Option ℕ) Refusal
to_check p = in_case yes p (Ok None) (in_case no p (Ok (Some p.first)) (Err (to_refusal p)))

-- ---- question 6: how many bytes of the file

abbrev pub of_noted : Option ℕ → Parts
of_noted (Some m) = parts note_in_file m 0
of_noted None = parts note_of_operator 0 0

abbrev pub to_noted : Parts → Option ℕ
to_noted p = in_case note_in_file p (Some p.first) None

-- ---- the writer: how many bytes

abbrev pub of_written : Result ℕ Refusal → Parts
of_written (Err r) = of_refusal r
of_written (Ok n) = parts written n 0

abbrev pub to_written : Parts → Result ℕ Refusal
to_written p = in_case written p (Ok p.first) (Err (to_refusal p))

-- ---- lengths that have two bytes

abbrev pub NotedSmall : Option ℕ → Type 0
NotedSmall (Some m) = m < 65536
NotedSmall None = Unit {0}

abbrev pub WrittenSmall : Result ℕ Refusal → Type 0
WrittenSmall (Err r) = Unit {0}
WrittenSmall (Ok n) = n < 65536

-- ---- exact both ways

-- each answer is read out of its number, and each fault out of its; the numbers of an answer of the code are small
pub record NumbersExact : Type 0 where
  pub judgement : ReadBack of_judgement to_judgement
  pub observed : ReadBack of_observed to_observed
  pub observations : ReadBack of_observations to_observations
  pub finding : ReadBack of_finding to_finding
  pub next : ReadBack of_next to_next
  pub check : ReadBack of_check to_check
  pub fault : (f : Fault) → checked (fault_number f) ≡ Some f
  pub noted : ReadBack of_noted to_noted
  pub written : ReadBack of_written to_written
