-- What the list of each pass knows on its way.
use Rattle.std.specs.Prelude.{ℕ, Bool, cond, ◌&&◌, List, eqb, ltb}
use Rattle.model.specs.Trace.{Trace, read, write, kind_of, object_of}
use Rattle.model.specs.Lists.{before, numbers, nearest}
use Rattle.model.specs.Observed.{observed, last_write}
use Rattle.model.specs.Good.{max_thread, max_object, depth}
use Rattle.model.specs.Sections.{is_last}
use Rattle.table.specs.Links.{last_of, last_by, last_fork, last_taken}
use Rattle.table.specs.Entries.{Entries}

-- before event k the list has every thread's last event so far; 0 where there is none
abbrev pub LastEvents : Trace → ℕ → List ℕ → Type 0
LastEvents t k list = Entries (last_of t (before k)) max_thread list

-- a list has every thread's last event
abbrev pub Tails : Trace → List ℕ → Type 0
Tails t list = Entries (last_by t) max_thread list

-- before event k, that is after the one before it, the list has every cell's last write so far; 0 where there is none
abbrev pub LastWrites : Trace → ℕ → List ℕ → Type 0
LastWrites t k list = Entries (λ x. last_write t x (before k)) max_object list

-- before event k the list has every thread's fork so far; 0 where there is none
abbrev pub Forks : Trace → ℕ → List ℕ → Type 0
Forks t k list = Entries (λ c. last_fork t c (before k)) max_thread list

-- before event k the list has how deep each lock is held
abbrev pub Depths : Trace → ℕ → List ℕ → Type 0
Depths t k list = Entries (λ x. depth t x (before k)) max_object list

-- event j is a last release of lock x
abbrev pub last_on : Trace → ℕ → ℕ → Bool
last_on t x j = is_last t j && eqb (object_of t j) x

-- backwards: the list has every lock's first last release after event k; 0 where there is none
unfoldable pub next_end : Trace → ℕ → ℕ → ℕ
next_end t k x = nearest (λ j. ltb k j && last_on t x j) (numbers t)

abbrev pub NextEnds : Trace → ℕ → List ℕ → Type 0
NextEnds t k list = Entries (next_end t k) max_object list

-- before event k the list has every lock's last outermost acquire so far; 0 where there is none
abbrev pub LastTaken : Trace → ℕ → List ℕ → Type 0
LastTaken t k list = Entries (λ x. last_taken t x (before k)) max_object list

-- where the interval of an access begins: a write, or a read's observed write; 0 for every other event
unfoldable pub access_began : Trace → ℕ → ℕ
access_began t k = cond (eqb (kind_of t k) write) k (cond (eqb (kind_of t k) read) (observed t k) 0)
