-- The refusals: each has the paper's number, and some have an event number.
use Rattle.std.specs.Prelude.{ℕ, List, [], ◌∷◌, ◌++◌, codes, Option as RustOption, Some, None}
use Rattle.std.specs.Fmt.{decimal}
use Rattle.std.proofs.Math.Option.{Option, none, some}
use Rattle.model.specs.Rows.{About, nothing, event, Answer, Row, First, Quiet}
use Rattle.limits.specs.declared.Refusal.{Refusal}
use Rattle.limits.specs.declared.Refusal.TheVariants.{FileSize, Mark, EventCount, Distance, Kind, Thread, Object, SelfOrSecond, AlreadyBegun, AlreadyJoined, LockHeld, NotHolder, ListShort, NotConflicting, AreaShort, Preamble}

-- the paper's number
abbrev pub number_of : Refusal → ℕ
number_of FileSize = 1
number_of Mark = 2
number_of EventCount = 3
number_of Distance = 4
number_of (Kind k) = 5
number_of (Thread k) = 6
number_of (Object k) = 7
number_of (LockHeld k) = 8
number_of (NotHolder k) = 9
number_of ListShort = 10
number_of NotConflicting = 11
number_of AreaShort = 12
number_of Preamble = 13
number_of (SelfOrSecond k) = 15
number_of (AlreadyBegun k) = 16
number_of (AlreadyJoined k) = 17

-- the event number that goes with it, where one does
abbrev pub event_of : Refusal → RustOption ℕ
event_of (Kind k) = Some k
event_of (Thread k) = Some k
event_of (Object k) = Some k
event_of (SelfOrSecond k) = Some k
event_of (AlreadyBegun k) = Some k
event_of (AlreadyJoined k) = Some k
event_of (LockHeld k) = Some k
event_of (NotHolder k) = Some k
event_of _ = None

-- in words: "refused N", or "refused N at K" where K is the number of an event
abbrev pub at_text : RustOption ℕ → List ℕ
at_text None = []
at_text (Some k) = codes " at " ++ decimal k

abbrev pub text_of : Refusal → List ℕ
text_of r = codes "refused " ++ decimal (number_of r) ++ at_text (event_of r)

-- what goes with it, and the two: the refusal as a row has it
abbrev pub about_of : RustOption ℕ → About
about_of None = nothing
about_of (Some k) = event k

abbrev pub paper : Refusal → Answer
paper r = record { number = number_of r; about = about_of (event_of r) }

-- the refusals of event k, in the order of its rows
abbrev pub event_refusals : ℕ → List Refusal
event_refusals k = Kind k ∷ Thread k ∷ Object k ∷ SelfOrSecond k ∷ AlreadyBegun k ∷ AlreadyJoined k ∷ LockHeld k ∷ NotHolder k ∷ []

-- ---- what is asked: refused, or answered

-- refused with r: the first row whose case it is has its number and what goes with it
pub record RefusedBy (rows : List Row) (r : Refusal) : Type 0 where
  pub first_row : First rows (some (paper r))

module _ {A : Type 0} where
  -- what each answer means: a refusal by the rows; where no row is the case, what the question says of it
  pub data Asked (rows : List Row) (refused : Refusal → A) (Means : A → Type 0) : A → Type 0 where
    refuses : {r : Refusal} → RefusedBy rows r → Asked rows refused Means (refused r)
    answers : {x : A} → Quiet rows → Means x → Asked rows refused Means x

  -- computed
  abbrev pub settled : (Refusal → A) → A → Option Refusal → A
  settled refused x none = x
  settled refused x (some r) = refused r
