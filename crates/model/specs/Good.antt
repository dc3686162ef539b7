-- Lock state, forks and joins in their places, well-formed and good traces, and the limits.
use Rattle.std.specs.Prelude.{ℕ, suc, ◌-◌, ◌≤◌, ◌<◌, ◌≡◌, ◌⊎◌, Bool, cond, ◌&&◌, List, [], ◌∷◌, length, leb}
use Rattle.model.specs.Trace.{Trace, Valid, read, acquire, release, fork, join, thread_of, kind_of, object_of, does}
use Rattle.model.specs.Lists.{before}

-- ---- locks: who holds one, and how deep. An acquire by the holder deepens the hold, a release undoes one level.

-- how deep lock x is held after a history
abbrev pub depth : Trace → ℕ → List ℕ → ℕ
depth t x [] = 0
depth t x (k ∷ h) = cond (does t acquire x k) (suc (depth t x h)) (cond (does t release x k) (depth t x h - 1) (depth t x h))

-- who holds it: 0 for nobody, suc c for thread c; nobody once a release has undone the last level
abbrev pub holder : Trace → ℕ → List ℕ → ℕ
holder t x [] = 0
holder t x (k ∷ h) = cond (does t acquire x k) (suc (thread_of t k)) (cond (does t release x k && leb (depth t x h) 1) 0 (holder t x h))

-- after a history event k may acquire its lock: no other thread holds it; or release it: its thread holds it
abbrev pub Free : Trace → List ℕ → ℕ → Type 0
Free t h k = (holder t (object_of t k) h ≡ 0) ⊎ (holder t (object_of t k) h ≡ suc (thread_of t k))

abbrev pub Held : Trace → List ℕ → ℕ → Type 0
Held t h k = holder t (object_of t k) h ≡ suc (thread_of t k)

-- ---- forks and joins: a thread is forked at most once, before its first event, and not by itself; it has no event after a join of it

-- event k is a fork or join of its own thread, or a second fork of one thread (refusal 15)
pub data SelfOrSecond (t : Trace) (k : ℕ) : Type 0 where
  self_fork : kind_of t k ≡ fork → object_of t k ≡ thread_of t k → SelfOrSecond t k
  self_join : kind_of t k ≡ join → object_of t k ≡ thread_of t k → SelfOrSecond t k
  second : {j : ℕ} → j < k → kind_of t j ≡ fork → kind_of t k ≡ fork → object_of t j ≡ object_of t k → SelfOrSecond t k

-- event k is a fork of a thread that already has an event (16)
pub data AlreadyBegun (t : Trace) (k : ℕ) : Type 0 where
  begun : {j : ℕ} → 1 ≤ j → j < k → kind_of t k ≡ fork → thread_of t j ≡ object_of t k → AlreadyBegun t k

-- event k is of a joined thread (17)
pub data AlreadyJoined (t : Trace) (k : ℕ) : Type 0 where
  joined : {j : ℕ} → j < k → kind_of t j ≡ join → object_of t j ≡ thread_of t k → AlreadyJoined t k

-- well-formed: an acquire takes a lock that no other thread holds; a release is by the holder; 15, 16 and 17 have no case
pub record WellFormed (t : Trace) : Type 0 where
  pub taken_free : (k : ℕ) → Valid t k → kind_of t k ≡ acquire → Free t (before k) k
  pub given_back : (k : ℕ) → Valid t k → kind_of t k ≡ release → Held t (before k) k
  pub other_once : (k : ℕ) → Valid t k → ¬ SelfOrSecond t k
  pub forked_first : (k : ℕ) → Valid t k → ¬ AlreadyBegun t k
  pub joined_last : (k : ℕ) → Valid t k → ¬ AlreadyJoined t k

-- the limits: the most events, the highest thread, the highest cell or lock
abbrev pub max_events : ℕ
max_events = 1000

abbrev pub max_thread : ℕ
max_thread = 15

abbrev pub max_object : ℕ
max_object = 1023

-- the limit of an object goes by the event's kind: that of a fork or join is a thread
abbrev pub object_limit : ℕ → ℕ
object_limit c = cond (leb fork c) max_thread max_object

abbrev pub KnownKind : ℕ → Type 0
KnownKind c = (read ≤ c) × (c ≤ join)

abbrev pub is_known_kind : ℕ → Bool
is_known_kind c = leb read c && leb c join

-- a good trace
pub record Good (t : Trace) : Type 0 where
  pub size : length t ≤ max_events
  pub kinds : (k : ℕ) → Valid t k → KnownKind (kind_of t k)
  pub thread_limit : (k : ℕ) → Valid t k → thread_of t k ≤ max_thread
  pub object-limit : (k : ℕ) → Valid t k → object_of t k ≤ object_limit (kind_of t k)
  pub well_formed : WellFormed t
