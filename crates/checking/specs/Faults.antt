-- The faults of a proposed list, each with its number in the paper.
use Rattle.std.specs.Prelude.{ℕ, zero, suc, cond, eqb, List, [], ◌∷◌, Option, None, Some, Result}
use Rattle.std.specs.Result.{result_err}
use Rattle.checking.specs.declared.Fault.{Fault}
use Rattle.checking.specs.declared.Fault.TheVariants.{NoEvent, NotNext, SeesOtherwise, LockHeld, NotReady, LowerNotEnabled, HigherNotEnabled}

-- the paper's number
abbrev pub number_of : Fault → ℕ
number_of NoEvent = 21
number_of NotNext = 22
number_of SeesOtherwise = 23
number_of LockHeld = 24
number_of LowerNotEnabled = 25
number_of HigherNotEnabled = 26
number_of NotReady = 27

-- the number of a first fault, 0 where there is none
abbrev pub number_or_zero : Option Fault → ℕ
number_or_zero None = 0
number_or_zero (Some f) = number_of f

-- the same of a part of the check: it goes on, or stops at a fault
abbrev pub fault_number : Result (Unit {0}) Fault → ℕ
fault_number r = number_or_zero (result_err r)

-- all faults
abbrev pub faults : List Fault
faults = NoEvent ∷ NotNext ∷ SeesOtherwise ∷ LockHeld ∷ LowerNotEnabled ∷ HigherNotEnabled ∷ NotReady ∷ []

-- the fault of a list that has number n, and f where none has it
abbrev pub fault_in : Fault → List Fault → ℕ → Fault
fault_in f [] n = f
fault_in f (g ∷ l) n = cond (eqb n (number_of g)) g (fault_in f l n)

-- the fault that has number n; 0 alone is none, and a number of no fault, which the check never gives, is a fault all the same
abbrev pub checked : ℕ → Option Fault
checked zero = None
checked (suc n) = Some (fault_in NoEvent faults (suc n))
