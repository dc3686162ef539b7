-- Judging a trace event by event (refusals 5 to 9 and 15 to 17).
use Rattle.std.specs.Prelude.{ℕ, ◌≤◌, ◌≡◌, List, [], ◌∷◌}
use Rattle.model.specs.Trace.{Trace, acquire, release, thread_of, kind_of, object_of}
use Rattle.model.specs.Lists.{before, numbers}
use Rattle.model.specs.Good.{KnownKind, max_thread, object_limit, Free, Held, SelfOrSecond, AlreadyBegun, AlreadyJoined}
use Rattle.model.specs.Rows.{Row, row, event, rows_of}

-- kind, thread and object are within their limits
pub record InLimits (t : Trace) (k : ℕ) : Type 0 where
  pub kind : KnownKind (kind_of t k)
  pub thread : thread_of t k ≤ max_thread
  pub object : object_of t k ≤ object_limit (kind_of t k)

-- the rows of event k
abbrev pub event_rows : Trace → ℕ → List Row
event_rows t k =
    row 5 (event k) (¬ KnownKind (kind_of t k))
    ∷ row 6 (event k) (¬ (thread_of t k ≤ max_thread))
    ∷ row 7 (event k) (¬ (object_of t k ≤ object_limit (kind_of t k)))
    ∷ row 15 (event k) (SelfOrSecond t k)
    ∷ row 16 (event k) (AlreadyBegun t k)
    ∷ row 17 (event k) (AlreadyJoined t k)
    ∷ row 8 (event k) ((kind_of t k ≡ acquire) × ¬ Free t (before k) k)
    ∷ row 9 (event k) ((kind_of t k ≡ release) × ¬ Held t (before k) k)
    ∷ []

-- those of each event, in order
abbrev pub trace_rows : Trace → List Row
trace_rows t = rows_of (event_rows t) (numbers t)
