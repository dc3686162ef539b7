-- What an event waits for in other threads.
use Rattle.std.specs.Prelude.{ℕ, ◌≡◌}
use Rattle.model.specs.Trace.{Trace, Valid, fork, join, thread_of, kind_of, object_of}

-- event j must stand before event k, beside the earlier ones of k's thread: the cone, enabled events, correct reorderings and fault 27 go by this
pub data Awaits (t : Trace) (k j : ℕ) : Type 0 where
  -- j is the fork of k's thread
  forked : kind_of t j ≡ fork → object_of t j ≡ thread_of t k → Awaits t k j
  -- k is a join, and j an event of the joined thread
  joined : kind_of t k ≡ join → Valid t j → thread_of t j ≡ object_of t k → Awaits t k j
