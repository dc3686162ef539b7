-- Conflicting pairs, reported pairs, and the one shown.
use Rattle.std.specs.Prelude.{ℕ, ◌<◌, ◌≡◌, ◌≢◌, ◌⊎◌, ◌↔◌, List, [], ◌∷◌, map}
use Rattle.model.specs.Trace.{Trace, Valid, read, write, thread_of, kind_of, object_of}
use Rattle.model.specs.Lists.{◌∈◌, Distinct, Ordered, only, all_but, pair}
use Rattle.model.specs.Reordering.{Correct}
use Rattle.model.specs.Cone.{InCone}

-- event k reads or writes a cell
abbrev pub Access : Trace → ℕ → Type 0
Access t k = (kind_of t k ≡ read) ⊎ (kind_of t k ≡ write)

-- conflicting pair: a lower than b, different threads, same cell, at least one a write
pub record Conflicting (t : Trace) (a b : ℕ) : Type 0 where
  pub first : Valid t a
  pub second : Valid t b
  pub threads : thread_of t a ≢ thread_of t b
  pub lower : a < b
  pub accesses : Access t a × Access t b
  pub cell : object_of t a ≡ object_of t b
  pub a_write : (kind_of t a ≡ write) ⊎ (kind_of t b ≡ write)

-- numbers that grow from left to right: the trace's order
abbrev pub Increasing : List ℕ → Type 0
Increasing l = Ordered (λ x y. x < y) l

-- events of different threads: all that the theorems ask of roots
pub record Apart (t : Trace) (R : List ℕ) : Type 0 where
  pub valid : (r : ℕ) → r ∈ R → Valid t r
  -- no two are by one thread
  pub threads : Distinct (map (λ r. thread_of t r) R)

-- a reordering that reports the roots R, with thread m as the moved thread
pub record Candidate (t : Trace) (R : List ℕ) (m : ℕ) (ρ : List ℕ) : Type 0 where
  -- no root is in the cone
  pub roots_out : (r : ℕ) → r ∈ R → ¬ InCone t R r
  -- the cone's events, all of them and no others, are put in a correct reordering
  pub correct : Correct t ρ
  pub members : (k : ℕ) → (k ∈ ρ) ↔ InCone t R k
  -- all events outside the moved thread keep the trace's order among themselves
  pub order : Increasing (only t (all_but m) ρ)

-- at the first place where the two lists differ, the first list's event is not of thread m and the second's is
abbrev pub Preferred : Trace → ℕ → List ℕ → List ℕ → Type 0
Preferred t m [] τ = ⊥
Preferred t m (x ∷ ρ) [] = ⊥
Preferred t m (x ∷ ρ) (y ∷ τ) = ((x ≡ y) × Preferred t m ρ τ) ⊎ ((thread_of t x ≢ m) × (thread_of t y ≡ m))

-- the one shown: preferred to every other
pub record Shown (t : Trace) (R : List ℕ) (m : ℕ) (ρ : List ℕ) : Type 0 where
  pub candidate : Candidate t R m ρ
  pub chosen : (τ : List ℕ) → Candidate t R m τ → (ρ ≡ τ) ⊎ Preferred t m ρ τ

-- the roots are reported with thread m as the moved thread
abbrev pub ReportedWith : Trace → List ℕ → ℕ → Type 0
ReportedWith t R m = (ρ : List ℕ) × Candidate t R m ρ

-- reported (asked of a conflicting pair): of a pair (a, b), a's thread is the moved thread
abbrev pub Reported : Trace → ℕ → ℕ → Type 0
Reported t a b = ReportedWith t (pair a b) (thread_of t a)

-- witness: the reordering shown for (a, b)
abbrev pub Witness : Trace → ℕ → ℕ → List ℕ → Type 0
Witness t a b ρ = Shown t (pair a b) (thread_of t a) ρ
