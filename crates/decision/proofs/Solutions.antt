-- Which merges of the cone's two lists are correct, by short conditions on the merge's staircase.
-- P are the moved thread's events of the cone, and Q all others. A merge of the two is given by a number for each event q of Q:
-- an event p of P stands before q exactly where p ≤ g q.
use Prim.Native.Nat.{ℕ, ◌≤◌, ◌<◌}
use mathlib.Core.Path.{◌≡◌}
use mathlib.Core.Logic.{◌≢◌, ◌⊎◌}
use mathlib.Core.Bool.{Bool, true, false, cond}
use mathlib.Core.List.{List, [], ◌∷◌, reverse}
use lib.Dec.{eqb}
use Rattle.model.specs.Trace.{Trace, read, write, thread_of, kind_of, object_of, does}
use Rattle.model.specs.Lists.{◌∈◌, just, all_but, own, only, nearest}
use Rattle.model.specs.Observed.{observed}
use Rattle.model.specs.Awaits.{Awaits}
use Rattle.model.specs.Sections.{is_outermost}
use Rattle.model.specs.Cone.{InCone, matching}
use Rattle.decision.specs.Rounds.{cone}
use Rattle.decision.specs.Stairs.{is_forced, climb}

-- ---- the cone's sections and reads

-- a closed section of the cone: an outermost acquire a with its matching release
pub record Closed (t : Trace) (R : List ℕ) (a : ℕ) : Type 0 where
  pub outermost : is_outermost t a ≡ true
  pub begun : InCone t R a
  pub ended : InCone t R (matching t a)

-- an open section of the cone: the matching release of the outermost acquire a, if there is one, is not in the cone
pub record Open (t : Trace) (R : List ℕ) (a : ℕ) : Type 0 where
  pub outermost : is_outermost t a ≡ true
  pub begun : InCone t R a
  pub unended : ¬ InCone t R (matching t a)

-- k is a read of the cone whose observed write is w, and v is another write of its cell in the cone
pub record Rival (t : Trace) (R : List ℕ) (k w v : ℕ) : Type 0 where
  pub reader : InCone t R k
  pub reads : kind_of t k ≡ read
  pub observes : observed t k ≡ w
  pub written : w ≢ 0
  pub begun : InCone t R v
  pub writes : does t write (object_of t k) v ≡ true
  pub other : v ≢ w

-- event k of the cone is of the moved thread (true, so of P), or of the others (false, so of Q)
pub record Part (t : Trace) (R : List ℕ) (m : ℕ) (b : Bool) (k : ℕ) : Type 0 where
  pub inside : InCone t R k
  pub list : just m (thread_of t k) ≡ b

-- the interval of the write w reaches to k: k is w itself, or a read that observed it
abbrev pub Reaches : Trace → ℕ → ℕ → Type 0
Reaches t w k = (k ≡ w) ⊎ ((kind_of t k ≡ read) × (observed t k ≡ w))

-- ---- the conditions

-- lower bounds, and intervals
pub record Lower (t : Trace) (R : List ℕ) (m : ℕ) (g : ℕ → ℕ) : Type 0 where
  -- a staircase: what stands before an event of Q stands before the later ones
  pub rises : (q r : ℕ) → Part t R m false q → Part t R m false r → q < r → g q ≤ g r
  -- q waits for p
  pub awaiting : (p q : ℕ) → Part t R m true p → Part t R m false q → Awaits t q p → p ≤ g q
  -- q read v
  pub observing : (v q : ℕ) → Part t R m true v → Part t R m false q → kind_of t q ≡ read → observed t q ≡ v → v ≤ g q
  -- q overwrote what p read, which was not P's own
  pub overwriting : (p q : ℕ) → Part t R m true p → Part t R m false q → kind_of t p ≡ read → ¬ Part t R m true (observed t p)
      → does t write (object_of t p) q ≡ true → p < q → p ≤ g q
  -- p read q, and v is an earlier write of P
  pub observed_last : (v p q : ℕ) → Part t R m true v → Part t R m true p → Part t R m false q → kind_of t p ≡ read → observed t p ≡ q
      → does t write (object_of t p) v ≡ true → v < p → v ≤ g q
  -- a write of P with its readers in P, and one of Q with its readers in Q, of one cell
  pub cells : (x v p w q : ℕ) → Part t R m true v → Part t R m true p → Part t R m false w → Part t R m false q
      → does t write x v ≡ true → does t write x w ≡ true → Reaches t v p → Reaches t w q → v ≤ g q → p ≤ g w
  -- a section of P and one of Q, on one lock
  pub sections : (a b : ℕ) → Part t R m true a → Part t R m false b → Closed t R a → Closed t R b → object_of t a ≡ object_of t b → a ≤ g (matching t b) → matching t a ≤ g b
  -- Q's has no end
  pub opening : (a b : ℕ) → Part t R m true a → Part t R m false b → Closed t R a → Open t R b → object_of t a ≡ object_of t b → matching t a ≤ g b

-- sections without an end
pub record Clear (t : Trace) (R : List ℕ) (m : ℕ) (g : ℕ → ℕ) : Type 0 where
  -- P's has no end: it comes after Q's
  pub endless : (a b : ℕ) → Part t R m true a → Part t R m false b → Open t R a → Closed t R b → object_of t a ≡ object_of t b → g (matching t b) < a
  -- not both of P's and Q's
  pub one_open : (a b : ℕ) → Part t R m true a → Part t R m false b → Open t R a → Open t R b → ¬ (object_of t a ≡ object_of t b)
  -- no section of Q follows one of Q without an end
  pub last_open : (a b : ℕ) → Part t R m false a → Part t R m false b → Open t R a → is_outermost t b ≡ true → object_of t a ≡ object_of t b → ¬ (a < b)

-- upper bounds
pub record Upper (t : Trace) (R : List ℕ) (m : ℕ) (g : ℕ → ℕ) : Type 0 where
  -- p waits for q
  pub awaiting : (p q : ℕ) → Part t R m true p → Part t R m false q → Awaits t p q → g q < p
  -- p read w
  pub observing : (p w : ℕ) → Part t R m true p → Part t R m false w → kind_of t p ≡ read → observed t p ≡ w → g w < p
  -- q saw the start
  pub start : (q v : ℕ) → Part t R m false q → Part t R m true v → kind_of t q ≡ read → observed t q ≡ 0 → does t write (object_of t q) v ≡ true → g q < v
  -- q read v: no later write of P before q, and no earlier write of Q after v
  pub later : (q v u : ℕ) → Part t R m false q → Part t R m true v → Part t R m true u → kind_of t q ≡ read → observed t q ≡ v
      → does t write (object_of t q) u ≡ true → v < u → g q < u
  pub earlier : (q v w : ℕ) → Part t R m false q → Part t R m true v → Part t R m false w → kind_of t q ≡ read → observed t q ≡ v
      → does t write (object_of t q) w ≡ true → w < q → g w < v

pub record Solution (t : Trace) (R : List ℕ) (m : ℕ) (g : ℕ → ℕ) : Type 0 where
  pub lower : Lower t R m g
  pub clear : Clear t R m g
  pub upper : Upper t R m g

-- no higher than another
abbrev pub Below : Trace → List ℕ → ℕ → (ℕ → ℕ) → (ℕ → ℕ) → Type 0
Below t R m g h = (q : ℕ) → Part t R m false q → g q ≤ h q

-- what must stand before by a staircase, as computed, does
abbrev pub Settled : Trace → List ℕ → ℕ → (ℕ → ℕ) → Type 0
Settled t R m g =
    (p q : ℕ) → p ∈ own t m (cone t R) → q ∈ only t (all_but m) (cone t R)
    → is_forced t (own t m (cone t R)) (only t (all_but m) (cone t R)) g p q ≡ true → p ≤ g q

-- ---- merges and their staircases

-- the merge by a staircase
abbrev pub merge : Trace → List ℕ → ℕ → (ℕ → ℕ) → List ℕ
merge t R m g = climb g (own t m (cone t R)) (only t (all_but m) (cone t R))

-- the staircase of a history (latest first), and of a list: the latest event of the moved thread before q; 0 where there is none
abbrev pub stair_at : Trace → ℕ → List ℕ → ℕ → ℕ
stair_at t m [] q = 0
stair_at t m (x ∷ h) q = cond (eqb x q) (nearest (λ k. just m (thread_of t k)) h) (stair_at t m h q)

abbrev pub stair_of : Trace → ℕ → List ℕ → ℕ → ℕ
stair_of t m ρ q = stair_at t m (reverse ρ) q

-- what a staircase says: j stands before k
abbrev pub Ahead : (ℕ → ℕ) → Bool → Bool → ℕ → ℕ → Type 0
Ahead g true true j k = j < k
Ahead g true false j k = j ≤ g k
Ahead g false true j k = g j < k
Ahead g false false j k = j < k

abbrev pub Stands : Trace → ℕ → (ℕ → ℕ) → ℕ → ℕ → Type 0
Stands t m g j k = Ahead g (just m (thread_of t j)) (just m (thread_of t k)) j k
