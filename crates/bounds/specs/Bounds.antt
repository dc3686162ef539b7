-- The tables that say the rules of a staircase: where the intervals of P end, and what each event of Q needs at least.
use Rattle.std.specs.Prelude.{ℕ, ◌≤◌, ◌<◌, ◌≡◌, ◌≢◌, ◌⊎◌, ◌↔◌, Bool, true, ◌&&◌, not, List, reverse, length, eqb}
use Rattle.model.specs.Trace.{Trace, Valid, thread_of}
use Rattle.model.specs.Lists.{◌∈◌, nearest, just}
use Rattle.decision.specs.Stairs.{is_bound}
use Rattle.stairs.specs.Stairs.{at}
use Rattle.table.specs.declared.judged.Table.{Table}
use Rattle.table.specs.Judged.{events}
use Rattle.table.specs.Links.{began}
use Rattle.bounds.specs.Parts.{Parts}

-- w is an event, of thread m
unfoldable pub is_own : Trace → ℕ → ℕ → Bool
is_own t m w = not (eqb w 0) && just m (thread_of t w)

-- the last event of P in the interval that event v begins; 0 where there is none
unfoldable pub end_in : Trace → List ℕ → ℕ → ℕ
end_in t P v = nearest (λ k. eqb (began t k) v) (reverse P)

-- a table has that of each event of P
pub record Ends (t : Trace) (P ends : List ℕ) : Type 0 where
  pub is : (v : ℕ) → v ∈ P → at ends v ≡ end_in t P v

-- x is the last of those events of P that must stand before an event, by F; 0 where there is none
pub record Last (P : List ℕ) (F : ℕ → Type 0) (x : ℕ) : Type 0 where
  pub above : (p : ℕ) → p ∈ P → F p → p ≤ x
  pub from : (x ≡ 0) ⊎ ((x ∈ P) × F x)

-- a table has that of each event of Q
pub record Needs (P Q : List ℕ) (F : ℕ → ℕ → Type 0) (need : List ℕ) : Type 0 where
  pub is : (k : ℕ) → k ∈ Q → Last P (λ p. F p k) (at need k)

-- by all lower bounds
abbrev pub Bound : Trace → List ℕ → List ℕ → ℕ → ℕ → Type 0
Bound t P Q p k = is_bound t P Q p k ≡ true

-- the two lists of a cone of a judged recording, and a table by event
pub record Given (s : Table) (m : ℕ) (P Q by : List ℕ) : Type 0 where
  pub parts : Parts (events s) m P Q
  pub room : length (events s) < length by

-- what is given, with the ends of P's intervals
pub record Ended (s : Table) (m : ℕ) (P Q ends : List ℕ) : Type 0 where
  pub given : Given s m P Q ends
  pub are : Ends (events s) P ends

-- and with what each event of Q needs by F
pub record Needed (s : Table) (m : ℕ) (P Q : List ℕ) (F : ℕ → ℕ → Type 0) (need : List ℕ) : Type 0 where
  pub given : Given s m P Q need
  pub are : Needs P Q F need

-- Q are the events outside thread m up to the top of each thread
pub record Covers (t : Trace) (m : ℕ) (Q tops : List ℕ) : Type 0 where
  pub is : (k : ℕ) → Valid t k → thread_of t k ≢ m → (k ∈ Q) ↔ (k ≤ at tops (thread_of t k))
