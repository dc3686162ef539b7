-- The walk over the events: the locks' holders and depths, what is known of the threads, and what each event does.
use Rattle.std.specs.Prelude.{ℕ, ◌≤◌, ◌≡◌, cond, ◌||◌, List, ◌∷◌, get_or, length, eqb, Result, Ok, Err, Option as RustOption, Some, None}
use Rattle.std.proofs.Math.Option.{Option, none, some}
use Rattle.model.specs.Trace.{Trace, Valid, acquire, release, kind_of, object_of}
use Rattle.model.specs.Lists.{before}
use Rattle.model.specs.Good.{max_events, max_object, depth, holder, SelfOrSecond, AlreadyBegun, AlreadyJoined}
use Rattle.bits.specs.Mask.{holds}
use Rattle.decision.specs.Refusals.{is_begun, is_forked, is_joined}
use Rattle.judging.specs.Judged.{event_refusal}
use Rattle.limits.specs.declared.Refusal.{Refusal}
use Rattle.judging.specs.declared.Threads.{Threads}
use Rattle.judging.specs.declared.Hold.{Hold}

-- two tables have who holds each lock after a history (0 for nobody, c + 1 for thread c), and how deep
pub record LockTable (t : Trace) (h holders depths : List ℕ) : Type 0 where
  pub holder_is : (x : ℕ) → x ≤ max_object → get_or holders x 0 ≡ holder t x h
  pub depth_is : (x : ℕ) → x ≤ max_object → get_or depths x 0 ≡ depth t x h

-- three sets have the threads that have an event in a history, that are forked in it and that are joined in it
pub record ThreadSets (t : Trace) (h : List ℕ) (s : Threads) : Type 0 where
  pub begun_is : (c : ℕ) → holds s.begun c ≡ is_begun t h c
  pub forked_is : (c : ℕ) → holds s.forked c ≡ is_forked t h c
  pub joined_is : (c : ℕ) → holds s.joined c ≡ is_joined t h c

-- event k is in its place among forks and joins: 15, 16 and 17 have no case
pub record InPlace (t : Trace) (k : ℕ) : Type 0 where
  pub other_once : ¬ SelfOrSecond t k
  pub forked_first : ¬ AlreadyBegun t k
  pub joined_last : ¬ AlreadyJoined t k

-- what the functions of an event's effect ask: an event of a trace that is not too long, and the tables of those before it
pub record Ready (t : Trace) (k : ℕ) (holders depths : List ℕ) : Type 0 where
  pub valid : Valid t k
  pub few : length t ≤ max_events
  pub locks : LockTable t (before k) holders depths

-- how an event leaves its lock: after an acquire or a release it has the model's holder and depth; no other event changes a lock
abbrev pub locking : Trace → ℕ → RustOption Hold
locking t k =
    cond (eqb (kind_of t k) acquire || eqb (kind_of t k) release)
    (Some (record { holder = holder t (object_of t k) (k ∷ before k); depth = depth t (object_of t k) (k ∷ before k) }))
    None

-- an event is refused, or leaves its lock so
abbrev pub refused_or : Option Refusal → RustOption Hold → Result (RustOption Hold) Refusal
refused_or none u = Ok u
refused_or (some r) u = Err r

-- what event k does after those before it
unfoldable pub effect_of : Trace → ℕ → Result (RustOption Hold) Refusal
effect_of t k = refused_or (event_refusal t k) (locking t k)
