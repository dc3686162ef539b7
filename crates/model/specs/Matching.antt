-- The matching release in words: where the hold ends that an outermost acquire begins.
use Rattle.std.specs.Prelude.{ℕ, suc, ◌≤◌, ◌<◌, ◌≡◌, length}
use Rattle.model.specs.Trace.{Trace, thread_of, object_of}
use Rattle.model.specs.Lists.{up_to}
use Rattle.model.specs.Good.{holder}

-- from event k on and before event r the thread of k holds the lock of k
abbrev pub HeldUntil : Trace → ℕ → ℕ → Type 0
HeldUntil t k r = (m : ℕ) → k ≤ m → m < r → holder t (object_of t k) (up_to m) ≡ suc (thread_of t k)

-- r is the event after which nobody holds the lock of k any more, or 0 where the thread of k holds it to the end
pub data HoldEnd (t : Trace) (k : ℕ) : ℕ → Type 0 where
  freed : {r : ℕ} → k < r → r ≤ length t → HeldUntil t k r → holder t (object_of t k) (up_to r) ≡ 0 → HoldEnd t k r
  never_freed : HeldUntil t k (suc (length t)) → HoldEnd t k 0
