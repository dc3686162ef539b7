-- Events and traces (the paper's recordings).
-- Events go by their numbers, from 1; 0 is "no event", or the start.
use Rattle.std.specs.Prelude.{ℕ, zero, suc, ◌≤◌, Bool, ◌&&◌, List, map, length, get_or, eqb}

-- The object is the cell of a read or write, the lock of an acquire or release, or the thread that a fork starts or a join waits for. Cells and locks are numbered apart.
pub record Event : Type 0 where
  pub thread : ℕ
  pub kind : ℕ
  pub object : ℕ

-- the kinds
abbrev pub read : ℕ
read = 1

abbrev pub write : ℕ
write = 2

abbrev pub acquire : ℕ
acquire = 3

abbrev pub release : ℕ
release = 4

abbrev pub fork : ℕ
fork = 5

abbrev pub join : ℕ
join = 6

abbrev pub Trace : Type 0
Trace = List Event

-- event k; of kind 0 where there is none
abbrev pub no_event : Event
no_event = record { thread = 0; kind = 0; object = 0 }

abbrev pub at : Trace → ℕ → Event
at t zero = no_event
at t (suc k) = get_or t k no_event

abbrev pub thread_of : Trace → ℕ → ℕ
thread_of t k = (at t k).thread

abbrev pub kind_of : Trace → ℕ → ℕ
kind_of t k = (at t k).kind

abbrev pub object_of : Trace → ℕ → ℕ
object_of t k = (at t k).object

-- the threads, kinds and objects of all events
abbrev pub thread_list : Trace → List ℕ
thread_list t = map (λ (e : Event). e.thread) t

abbrev pub kind_list : Trace → List ℕ
kind_list t = map (λ (e : Event). e.kind) t

abbrev pub object_list : Trace → List ℕ
object_list t = map (λ (e : Event). e.object) t

-- k is the number of an event of the trace
pub record Valid (t : Trace) (k : ℕ) : Type 0 where
  pub positive : 1 ≤ k
  pub bounded : k ≤ length t

-- event k is of kind c, on object x
unfoldable pub does : Trace → ℕ → ℕ → ℕ → Bool
does t c x k = eqb (kind_of t k) c && eqb (object_of t k) x
