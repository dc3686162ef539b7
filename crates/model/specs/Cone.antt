-- Causal cone.
use Rattle.std.specs.Prelude.{ℕ, ◌≤◌, ◌<◌, ◌≡◌, ◌≢◌, ◌⊎◌, Bool, cond, ◌&&◌, List, eqb, ltb}
use Rattle.model.specs.Trace.{Trace, Valid, read, acquire, thread_of, kind_of, object_of}
use Rattle.model.specs.Lists.{◌∈◌, nearest, numbers}
use Rattle.model.specs.Observed.{observed}
use Rattle.model.specs.Awaits.{Awaits}
use Rattle.model.specs.Sections.{is_outermost, is_last}

-- j is an earlier event of k's thread
pub record Earlier (t : Trace) (j k : ℕ) : Type 0 where
  pub first : 1 ≤ j
  pub less : j < k
  pub thread : thread_of t j ≡ thread_of t k

-- j must stand before k: it is an earlier event of k's thread, or k waits for it
abbrev pub Precedes : Trace → ℕ → ℕ → Type 0
Precedes t j k = Earlier t j k ⊎ Awaits t k j

-- matching release of the outermost acquire k: the next last release of its lock by its thread; 0 where there is none, and for every other event
unfoldable pub gives_back : Trace → ℕ → ℕ → Bool
gives_back t k j = ltb k j && (is_last t j && (eqb (object_of t j) (object_of t k) && eqb (thread_of t j) (thread_of t k)))

unfoldable pub matching : Trace → ℕ → ℕ
matching t k = cond (is_outermost t k) (nearest (λ j. gives_back t k j) (numbers t)) 0

-- k is by a thread that is none of the roots'
abbrev pub Outside : Trace → List ℕ → ℕ → Type 0
Outside t R k = (r : ℕ) → r ∈ R → thread_of t r ≢ thread_of t k

-- k is by a root's thread
abbrev pub Inside : Trace → List ℕ → ℕ → Type 0
Inside t R k = (r : ℕ) × (r ∈ R) × (thread_of t r ≡ thread_of t k)

-- every event of the trace is
abbrev pub AllInside : Trace → List ℕ → Type 0
AllInside t R = (k : ℕ) → Valid t k → Inside t R k

-- Causal cone of the roots R (of a pair: a and b): the least set with rules (i) to (iv). The roots' threads are exempt from rule (iv).

-- event k brings event j into it
pub data Brings (t : Trace) (R : List ℕ) (k j : ℕ) : Type 0 where
  -- (ii) with an event all earlier ones of its thread, and the fork of its thread; with a join all the joined thread's events
  precedes : Precedes t j k → Brings t R k j
  -- (iii) with a read its observed write
  observes : kind_of t k ≡ read → observed t k ≡ j → j ≢ 0 → Brings t R k j
  -- (iv) with an outermost acquire by a thread other than the roots' its matching release, if there is one
  closes : kind_of t k ≡ acquire → Outside t R k → matching t k ≡ j → j ≢ 0 → Brings t R k j

pub data InCone (t : Trace) (R : List ℕ) : ℕ → Type 0 where
  -- (i) every event before a root in its thread, and the fork of its thread
  root : {k r : ℕ} → r ∈ R → Precedes t k r → InCone t R k
  -- (ii) to (iv)
  brought : {j k : ℕ} → InCone t R k → Brings t R k j → InCone t R j

-- every event of the cone is by a root's thread
abbrev pub ConeInside : Trace → List ℕ → Type 0
ConeInside t R = (k : ℕ) → InCone t R k → Inside t R k
