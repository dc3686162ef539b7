-- What the steps of a pass do, and how the merge by a staircase goes on.
use Rattle.std.specs.Prelude.{ℕ, ◌+◌, ◌≤◌, ◌<◌, ◌≡◌, Bool, true, false, cond, ◌&&◌, ◌||◌, List, [], ◌∷◌, length, set, eqb, leb, ltb, Option, Some, None}
use Rattle.model.specs.Trace.{Trace, Valid}
use Rattle.model.specs.Lists.{◌∈◌}
use Rattle.model.specs.Race.{Increasing}
use Rattle.table.specs.declared.judged.Table.{Table}
use Rattle.table.specs.Judged.{events}
use Rattle.table.specs.Links.{began}
use Rattle.stairs.specs.Stairs.{at, slot_of, slots, InOthers, Solution}

-- r is the larger of two numbers
pub record Larger (a b r : ℕ) : Type 0 where
  pub first : a ≤ r
  pub second : b ≤ r
  pub least : (x : ℕ) → a ≤ x → b ≤ x → r ≤ x

-- ---- the events of P pass

-- events P of a judged recording's table, in its order, and a table by event
pub record Moved (s : Table) (P ends : List ℕ) : Type 0 where
  pub valid : (k : ℕ) → k ∈ P → Valid (events s) k
  pub up : Increasing P
  pub room : length (events s) < length ends

-- event v passed: its slot is reached up to the end of its interval
pub record Noted (t : Trace) (ends : List ℕ) (v : ℕ) (reach reach' : List ℕ) : Type 0 where
  pub long : length reach' ≡ length reach
  pub grows : (s : ℕ) → at reach s ≤ at reach' s
  pub above : at ends v ≤ at reach' (slot_of t v)
  pub least : (s b : ℕ) → at reach s ≤ b → (slot_of t v ≡ s → at ends v ≤ b) → at reach' s ≤ b

-- the events of P before place i passed, none of them above event n: each slot is reached up to the last end of their intervals on it
pub record Upto (t : Trace) (P ends : List ℕ) (i n : ℕ) (reach : List ℕ) : Type 0 where
  pub long : length reach ≡ slots
  pub few : i ≤ length P
  pub under : (k : ℕ) → k < i → at P k ≤ n
  pub above : (k : ℕ) → k < i → at ends (at P k) ≤ at reach (slot_of t (at P k))
  pub least : (s b : ℕ) → ((k : ℕ) → k < i → slot_of t (at P k) ≡ s → at ends (at P k) ≤ b) → at reach s ≤ b

-- and the events of P up to n passed
pub record Reached (t : Trace) (P ends : List ℕ) (i n : ℕ) (reach : List ℕ) : Type 0 where
  pub upto : Upto t P ends i n reach
  pub over : (k : ℕ) → i ≤ k → k < length P → n < at P k

-- ---- an event of Q

-- event k needs r: the larger of what it needed and of what passed
pub record Met (k n : ℕ) (need : List ℕ) (r : ℕ) (need' : List ℕ) : Type 0 where
  pub larger : Larger n (at need k) r
  pub put : need' ≡ set need k r

-- where the interval of event k begins, if it begins outside thread m
pub data Begun (t : Trace) (m k : ℕ) : Option ℕ → Type 0 where
  nowhere : ¬ InOthers t m k → Begun t m k None
  outside : InOthers t m k → Begun t m k (Some (began t k))

-- what the slot of event o is reached up to; 0 where there is none
unfoldable pub asked : Trace → List ℕ → ℕ → ℕ
asked t reach o = cond (eqb o 0) 0 (at reach (slot_of t o))

-- event o needs at least `most`: it stands, or it is raised
pub data Pulled (o most : ℕ) (raised : Bool) (need : List ℕ) : Bool → List ℕ → Type 0 where
  stands : most ≤ at need o → Pulled o most raised need raised need
  lifts : at need o < most → Pulled o most raised need true (set need o most)

-- ---- a pass

abbrev pub total : List ℕ → ℕ
total [] = 0
total (x ∷ l) = x + total l

-- a list is nowhere above a solution
abbrev pub Below : Trace → ℕ → List ℕ → List ℕ → List ℕ → List ℕ → List ℕ → Type 0
Below t m P Q ends low l = (g : ℕ → ℕ) → Solution t m P Q ends low g → (k : ℕ) → k ∈ Q → at l k ≤ g k

-- what a pass says: a solution, or that something was raised
pub record Passed (t : Trace) (m : ℕ) (P Q ends need : List ℕ) (raised : Bool) (need' : List ℕ) : Type 0 where
  pub same : length need' ≡ length need
  pub grows : (k : ℕ) → at need k ≤ at need' k
  pub below : Below t m P Q ends need need'
  pub more : raised ≡ true → total need < total need'
  pub rest : raised ≡ false → Solution t m P Q ends need (at need')

-- ---- the merge

-- at places i of P and j of Q the event of P is next: there is one, and Q is over or its event is not above the stair of Q's
unfoldable pub is_moved_next : (ℕ → ℕ) → List ℕ → List ℕ → ℕ → ℕ → Bool
is_moved_next g P Q i j = ltb i (length P) && (leb (length Q) j || leb (at P i) (g (at Q j)))

-- a stair for each event of Q, and room for the merge
pub record Climbing (P Q need out : List ℕ) : Type 0 where
  pub stairs : (k : ℕ) → k ∈ Q → k < length need
  pub room : length P + length Q ≤ length out
