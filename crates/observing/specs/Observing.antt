-- Question 2 on the events of a good file, for any number k.
use Rattle.std.specs.Prelude.{ℕ, zero, suc, ◌≡◌, cond, eqb}
use Rattle.model.specs.Trace.{Trace, Valid, read, kind_of, object_of}
use Rattle.model.specs.Observed.{observed, LastBefore, Unwritten}
use Rattle.observing.specs.declared.Observed.{Observed}
use Rattle.observing.specs.declared.Observed.TheVariants.{Write, Start, NotARead}

-- event k is a read
pub record IsRead (t : Trace) (k : ℕ) : Type 0 where
  pub valid : Valid t k
  pub kind : kind_of t k ≡ read

-- what each answer means: the last write of the read's cell before it, or that there is none
pub data ObservedOf (t : Trace) (k : ℕ) : Observed → Type 0 where
  sees_write : {w : ℕ} → IsRead t k → LastBefore t (object_of t k) k w → ObservedOf t k (Write w)
  sees_start : IsRead t k → Unwritten t (object_of t k) 0 k → ObservedOf t k Start
  no_read : ¬ IsRead t k → ObservedOf t k NotARead

-- computed
abbrev pub sees : ℕ → Observed
sees zero = Start
sees (suc w) = Write (suc w)

-- there is no event 0 and none above n, so these are of no kind
unfoldable pub observed_in : Trace → ℕ → Observed
observed_in t k = cond (eqb (kind_of t k) read) (sees (observed t k)) NotARead
