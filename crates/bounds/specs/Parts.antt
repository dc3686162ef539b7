-- The two lists of a cone's events: those of the moved thread, and the others'.
use Rattle.std.specs.Prelude.{ℕ, ◌≡◌, ◌≢◌, ◌⊎◌, List}
use Rattle.model.specs.Trace.{Trace, Valid, read, thread_of, kind_of}
use Rattle.model.specs.Lists.{◌∈◌}
use Rattle.model.specs.Observed.{observed}
use Rattle.model.specs.Awaits.{Awaits}
use Rattle.model.specs.Cone.{Earlier}
use Rattle.model.specs.Race.{Increasing}

-- P are events of thread m and Q events of other threads, each in the trace's order; with an event they have all earlier ones of its thread and all that it waits for, and with a read its observed write
pub record Parts (t : Trace) (m : ℕ) (P Q : List ℕ) : Type 0 where
  pub moved : (k : ℕ) → k ∈ P → Valid t k
  pub moved_thread : (k : ℕ) → k ∈ P → thread_of t k ≡ m
  pub moved_up : Increasing P
  pub moved_earlier : (j k : ℕ) → k ∈ P → Earlier t j k → j ∈ P
  pub others : (k : ℕ) → k ∈ Q → Valid t k
  pub others_thread : (k : ℕ) → k ∈ Q → thread_of t k ≢ m
  pub others_up : Increasing Q
  pub others_earlier : (j k : ℕ) → k ∈ Q → Earlier t j k → j ∈ Q
  pub awaited : (j k : ℕ) → (k ∈ P) ⊎ (k ∈ Q) → Awaits t k j → (j ∈ P) ⊎ (j ∈ Q)
  pub seen : (k : ℕ) → (k ∈ P) ⊎ (k ∈ Q) → kind_of t k ≡ read → observed t k ≢ 0 → (observed t k ∈ P) ⊎ (observed t k ∈ Q)
