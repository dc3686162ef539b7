-- Correct reordering, enabled events, and the lists that bring events next.
use Rattle.std.specs.Prelude.{ℕ, ◌≡◌, ◌≢◌, true, List, [], ◌∷◌, ◌++◌, reverse}
use Rattle.model.specs.Trace.{Trace, Valid, read, write, acquire, fork, join, thread_of, kind_of, object_of, does}
use Rattle.model.specs.Lists.{◌∈◌, own, before, numbers, pair}
use Rattle.model.specs.Observed.{last_write, observed}
use Rattle.model.specs.Good.{Free}
use Rattle.model.specs.Awaits.{Awaits}

-- ---- in the paper's words

-- k stands in the list ρ, with the list σ before it
abbrev pub StandsAfter : List ℕ → List ℕ → ℕ → Type 0
StandsAfter ρ σ k = (τ : List ℕ) × (ρ ≡ σ ++ (k ∷ τ))

pub record CorrectReordering (t : Trace) (ρ : List ℕ) : Type 0 where
  -- a list of events
  pub events : (k : ℕ) → k ∈ ρ → Valid t k
  -- none twice
  pub once : (σ : List ℕ) (k : ℕ) → StandsAfter ρ σ k → ¬ (k ∈ σ)
  -- each thread's events in it are the beginning of that thread's events, in order
  pub beginnings : (c : ℕ) → (rest : List ℕ) × (own t c (numbers t) ≡ own t c ρ ++ rest)
  -- no lock is acquired while held: no other thread holds it (so in a well-formed trace an inner acquire may come, and an outermost one where nobody holds its lock)
  pub locks : (σ : List ℕ) (k : ℕ) → StandsAfter ρ σ k → kind_of t k ≡ acquire → Free t (reverse σ) k
  -- each read sees in the list the write it observed
  pub reads : (σ : List ℕ) (k : ℕ) → StandsAfter ρ σ k → kind_of t k ≡ read → observed t k ≢ 0 → last_write t (object_of t k) (reverse σ) ≡ observed t k
  -- or, if it saw the start, no write to its cell stands before it in the list
  pub start_reads : (σ : List ℕ) (k : ℕ) → StandsAfter ρ σ k → kind_of t k ≡ read → observed t k ≡ 0 → (j : ℕ) → j ∈ σ → ¬ (does t write (object_of t k) j ≡ true)
  -- a forked thread's events follow its fork
  pub forks : (σ : List ℕ) (k : ℕ) → StandsAfter ρ σ k → (j : ℕ) → kind_of t j ≡ fork → object_of t j ≡ thread_of t k → j ∈ σ
  -- a join follows all events of the joined thread
  pub joins : (σ : List ℕ) (k : ℕ) → StandsAfter ρ σ k → kind_of t k ≡ join → (j : ℕ) → Valid t j → thread_of t j ≡ object_of t k → j ∈ σ

-- ---- event by event: the definition that everything else uses

-- k is the next event of its thread after a history:
-- the events of its thread in the history are those before k in the trace, in order (so k is not in it)
pub record Next (t : Trace) (h : List ℕ) (k : ℕ) : Type 0 where
  pub valid : Valid t k
  pub turn : own t (thread_of t k) h ≡ own t (thread_of t k) (before k)

-- what k waits for is in a history: its thread's fork, if the trace has one; of a join also the joined thread's events
abbrev pub Ready : Trace → List ℕ → ℕ → Type 0
Ready t h k = (j : ℕ) → Awaits t k j → j ∈ h

-- enabled after a history
pub record Enabled (t : Trace) (h : List ℕ) (k : ℕ) : Type 0 where
  pub next : Next t h k
  pub ready : Ready t h k

-- the read k sees after a history the write it observed, or no write where it saw the start
abbrev pub Sees : Trace → List ℕ → ℕ → Type 0
Sees t h k = last_write t (object_of t k) h ≡ observed t k

-- k may come after the history h
pub record Step (t : Trace) (h : List ℕ) (k : ℕ) : Type 0 where
  pub enabled : Enabled t h k
  pub sees : kind_of t k ≡ read → Sees t h k
  pub free : kind_of t k ≡ acquire → Free t h k

-- correct reordering: each event may come after what stands before it
abbrev pub CorrectFrom : Trace → List ℕ → List ℕ → Type 0
CorrectFrom t h [] = Unit {0}
CorrectFrom t h (k ∷ ρ) = Step t h k × CorrectFrom t (k ∷ h) ρ

abbrev pub Correct : Trace → List ℕ → Type 0
Correct t ρ = CorrectFrom t [] ρ

-- enabled after the whole list. An enabled read need not see its old write.
abbrev pub EnabledAfter : Trace → List ℕ → ℕ → Type 0
EnabledAfter t ρ k = Enabled t (reverse ρ) k

-- ρ is a correct reordering that brings all of R next
pub record BringsAll (t : Trace) (ρ R : List ℕ) : Type 0 where
  pub correct : Correct t ρ
  pub enabled : (r : ℕ) → r ∈ R → EnabledAfter t ρ r

-- there is such a reordering
abbrev pub Together : Trace → List ℕ → Type 0
Together t R = (ρ : List ℕ) × BringsAll t ρ R

-- of two events: brings both a and b next
abbrev pub BringsBoth : Trace → List ℕ → ℕ → ℕ → Type 0
BringsBoth t ρ a b = BringsAll t ρ (pair a b)

-- predictable race: there is such a reordering
abbrev pub Predictable : Trace → ℕ → ℕ → Type 0
Predictable t a b = Together t (pair a b)
