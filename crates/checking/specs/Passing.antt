-- What the pass over a proposed list keeps of the events that have been passed, and what its parts say by it.
use Rattle.std.specs.Prelude.{ℕ, ◌≡◌, Bool, ◌&&◌, ◌||◌, List, [], ◌∷◌, reverse, take, drop, eqb, Result}
use Rattle.model.specs.Trace.{Trace}
use Rattle.model.specs.Lists.{listed}
use Rattle.model.specs.Observed.{last_write}
use Rattle.model.specs.Good.{max_thread, max_object, holder}
use Rattle.model.specs.Reordering.{Correct}
use Rattle.model.specs.Rows.{first, or_zero}
use Rattle.decision.specs.Check.{is_next, is_ready, place_tests, place_fault, fault_from}
use Rattle.table.specs.Links.{last_of}
use Rattle.table.specs.Entries.{Entries}
use Rattle.checking.specs.declared.Fault.{Fault}
use Rattle.checking.specs.Faults.{fault_number}

-- what is kept: the last event of each thread, the last write of each cell and the holder of each lock, in the history of a correct reordering
pub record Knows (t : Trace) (h last writes locks : List ℕ) : Type 0 where
  pub correct : Correct t (reverse h)
  pub threads : Entries (last_of t h) max_thread last
  pub cells : Entries (λ x. last_write t x h) max_object writes
  pub holders : Entries (λ x. holder t x h) max_object locks

-- ---- what the parts say, whatever the history that the lists are of

-- is event k the next of its thread?
pub record NextTold (t : Trace) (last : List ℕ) (k : ℕ) (r : Bool) : Type 0 where
  pub is : (h writes locks : List ℕ) → Knows t h last writes locks → r ≡ is_next t h k

-- has event j, if it is one, been passed?
pub record PassedTold (t : Trace) (last : List ℕ) (j : ℕ) (r : Bool) : Type 0 where
  pub is : (h writes locks : List ℕ) → Knows t h last writes locks → r ≡ (eqb j 0 || listed j h)

-- has all been passed that event k waits for?
pub record ReadyTold (t : Trace) (last : List ℕ) (k : ℕ) (r : Bool) : Type 0 where
  pub is : (h writes locks : List ℕ) → Knows t h last writes locks → r ≡ is_ready t h k

-- is it enabled?
pub record EnabledTold (t : Trace) (last : List ℕ) (k : ℕ) (r : Bool) : Type 0 where
  pub is : (h writes locks : List ℕ) → Knows t h last writes locks → r ≡ is_next t h k && is_ready t h k

-- fault 23 or 24 of an event: the third and the fourth row
unfoldable pub access_fault : Trace → List ℕ → ℕ → ℕ
access_fault t h k = or_zero (first (take 2 (drop 2 (place_tests t h k))) (23 ∷ 24 ∷ []))

pub record AccessTold (t : Trace) (writes locks : List ℕ) (k : ℕ) (r : Result (Unit {0}) Fault) : Type 0 where
  pub is : (h last : List ℕ) → Knows t h last writes locks → fault_number r ≡ access_fault t h k

-- the fault of any number: 21 to 24, or 27
pub record FaultTold (t : Trace) (last writes locks : List ℕ) (k : ℕ) (r : Result (Unit {0}) Fault) : Type 0 where
  pub is : (h : List ℕ) → Knows t h last writes locks → fault_number r ≡ place_fault t h k

-- event k, which has no fault, goes into the lists: they know one event more
pub record KnowsMore (t : Trace) (k : ℕ) (last writes locks last' writes' locks' : List ℕ) : Type 0 where
  pub knows : (h : List ℕ) → Knows t h last writes locks → place_fault t h k ≡ 0 → Knows t (k ∷ h) last' writes' locks'

-- the first fault of a list by place; where there is none, the lists know all its events
pub record Walked (t : Trace) (list : List ℕ) (r : Result (Unit {0}) Fault) (last writes locks : List ℕ) : Type 0 where
  pub says : fault_number r ≡ fault_from t [] list
  pub knows : fault_number r ≡ 0 → Knows t (reverse list) last writes locks
