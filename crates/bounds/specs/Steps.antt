-- What each step of the passes does to its table, and what the tables know on the way.
use Rattle.std.specs.Prelude.{ℕ, ◌≤◌, ◌<◌, ◌≡◌, ◌⊎◌, Bool, true, cond, ◌&&◌, ◌||◌, not, List, length, set, eqb, ltb}
use Rattle.model.specs.Trace.{Trace, Valid, read, write, acquire, thread_of, kind_of, object_of, does}
use Rattle.model.specs.Lists.{◌∈◌, nearest, passed}
use Rattle.model.specs.Observed.{observed}
use Rattle.model.specs.Good.{max_object}
use Rattle.model.specs.Race.{Increasing}
use Rattle.decision.specs.Check.{is_awaited}
use Rattle.decision.specs.Rounds.{is_observed}
use Rattle.model.specs.Sections.{is_outermost}
use Rattle.model.specs.Cone.{matching}
use Rattle.decision.specs.Stairs.{is_overwriting, is_read_over}
use Rattle.stairs.specs.Stairs.{at}
use Rattle.table.specs.declared.judged.Table.{Table}
use Rattle.table.specs.Judged.{events}
use Rattle.table.specs.Links.{waits_for, began, fork_of}
use Rattle.table.specs.Entries.{Entries}
use Rattle.bounds.specs.Bounds.{is_own, Last}

-- event e is the last so far of its interval, where that begins in thread m; its own interval, if it begins one, has no other so far
unfoldable pub with_end : Trace → ℕ → ℕ → List ℕ → List ℕ
with_end t m e ends = let l = set ends e 0 in cond (is_own t m (began t e)) (set l (began t e) e) l

-- entry k is at least v
unfoldable pub raised_to : List ℕ → ℕ → ℕ → List ℕ
raised_to l k v = cond (ltb (at l k) v) (set l k v) l

-- ---- reads of P that saw no write of P

unfoldable pub is_outside : Trace → ℕ → ℕ → Bool
is_outside t m e = eqb (kind_of t e) read && not (is_own t m (observed t e))

-- the last of them in a history, on cell x
abbrev pub last_read : Trace → ℕ → List ℕ → ℕ → ℕ
last_read t m h x = nearest (λ e. is_outside t m e && eqb (object_of t e) x) h

unfoldable pub with_read : Trace → ℕ → ℕ → List ℕ → List ℕ
with_read t m e seen = cond (is_outside t m e) (set seen (object_of t e) e) seen

-- i events of P, all below event k, have passed, and `seen` has the last of those reads for each cell
pub record Reading (s : Table) (m : ℕ) (P : List ℕ) (k i : ℕ) (seen : List ℕ) : Type 0 where
  pub valid : (e : ℕ) → e ∈ P → Valid (events s) e
  pub up : Increasing P
  pub few : i ≤ length P
  pub below : (e : ℕ) → e ∈ passed P i → e < k
  pub knows : Entries (last_read (events s) m (passed P i)) max_object seen

-- all events of P below event k have
pub record Read (s : Table) (m : ℕ) (P : List ℕ) (k i : ℕ) (seen : List ℕ) : Type 0 where
  pub reading : Reading s m P k i seen
  pub all : (e : ℕ) → e ∈ P → e < k → e ∈ passed P i

-- ---- what event k of Q needs by what it waits for, observed or overwrote

-- w, where it is an event of thread m; 0 otherwise
unfoldable pub own_event : Trace → ℕ → ℕ → ℕ
own_event t m w = cond (is_own t m w) w 0

-- by what it does
unfoldable pub action_bound : Trace → ℕ → ℕ → List ℕ → ℕ
action_bound t m k seen = cond (eqb (kind_of t k) write) (at seen (object_of t k)) (own_event t m (waits_for t k))

-- and by the fork of its thread
unfoldable pub first_bound : Trace → ℕ → ℕ → List ℕ → ℕ
first_bound t m k seen = let a = action_bound t m k seen in let f = own_event t m (fork_of t k) in cond (ltb a f) f a

abbrev pub First : Trace → List ℕ → ℕ → ℕ → Type 0
First t P p k = (is_awaited t k p ≡ true) ⊎ ((is_observed t k p ≡ true) ⊎ (is_overwriting t P p k ≡ true))

-- ---- writes of P, and reads of P behind them

-- w is an event, not of thread m
unfoldable pub is_other : Trace → ℕ → ℕ → Bool
is_other t m w = not (eqb w 0) && not (is_own t m w)

-- what event e, where it observed a write of Q, makes that write need: the last write of P before e
unfoldable pub with_over : Trace → ℕ → ℕ → List ℕ → List ℕ → List ℕ
with_over t m e last need = cond (eqb (kind_of t e) read && is_other t m (observed t e)) (raised_to need (observed t e) (at last (object_of t e))) need

-- p is a write, and a later read of a history observed k
abbrev pub Over : Trace → List ℕ → ℕ → ℕ → Type 0
Over t h p k = (e : ℕ) × (e ∈ h) × (is_observed t e k ≡ true) × (does t write (object_of t e) p ≡ true) × (p < e)

-- what an event of Q needs by both
abbrev pub FirstTwo : Trace → List ℕ → ℕ → ℕ → Type 0
FirstTwo t P p k = First t P p k ⊎ (is_read_over t P p k ≡ true)

-- ---- sections of P on a lock

-- what event v of P makes of the last ends of each lock's sections
unfoldable pub with_section : Trace → ℕ → List ℕ → List ℕ → List ℕ
with_section t v ends last = cond (eqb (kind_of t v) acquire) (raised_to last (object_of t v) (at ends v)) last

-- p is in a section on lock x that an event of a history begins
pub record InSection (t : Trace) (h : List ℕ) (x p : ℕ) : Type 0 where
  pub start : ℕ
  pub passed : start ∈ h
  pub acquires : kind_of t start ≡ acquire
  pub lock : object_of t start ≡ x
  pub inside : began t p ≡ start

-- the last event of P that is in a section, for each lock
pub record Sections (t : Trace) (P last : List ℕ) : Type 0 where
  pub is : (x : ℕ) → x ≤ max_object → Last P (InSection t P x) (at last x)

-- event k begins a section that does not end up to the top of its thread
unfoldable pub is_open_in : Trace → List ℕ → ℕ → Bool
is_open_in t tops k = is_outermost t k && (eqb (matching t k) 0 || ltb (at tops (thread_of t k)) (matching t k))

unfoldable pub with_open : Trace → List ℕ → ℕ → List ℕ → List ℕ → List ℕ
with_open t tops k last need = cond (is_open_in t tops k) (raised_to need k (at last (object_of t k))) need
