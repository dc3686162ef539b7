-- Lists of event numbers, and the threads of a trace.
use Rattle.std.specs.Prelude.{ℕ, zero, suc, ◌≤◌, ◌≡◌, ◌≢◌, Bool, true, false, cond, ◌||◌, not, length, take, drop, eqb}
use mathlib.Core.List.{List, [], ◌∷◌, ◌++◌, reverse, Memᴰ}
use Rattle.model.specs.Trace.{Trace, Valid, thread_of}

infix 4 ◌∈◌
abbrev pub ◌∈◌ : ℕ → List ℕ → Type 0
k ∈ l = Memᴰ k l

-- A history is a list of event numbers, latest first: what stands before an event of the trace, or before a place of a reordering.
-- So one definition of the last write and one of the lock state serve the trace and its reorderings alike.
abbrev pub up_to : ℕ → List ℕ
up_to zero = []
up_to (suc k) = suc k ∷ up_to k

-- the history before event k of the trace
abbrev pub before : ℕ → List ℕ
before zero = []
before (suc k) = up_to k

-- the trace's events in order
abbrev pub numbers : Trace → List ℕ
numbers t = reverse (up_to (length t))

-- a list with k in front of it where a test says so
abbrev pub cons_if : Bool → ℕ → List ℕ → List ℕ
cons_if true k l = k ∷ l
cons_if false k l = l

-- the members of a list that pass a test
abbrev pub keep : (ℕ → Bool) → List ℕ → List ℕ
keep p [] = []
keep p (k ∷ l) = cons_if (p k) k (keep p l)

-- the first of them; 0 where there is none
abbrev pub nearest : (ℕ → Bool) → List ℕ → ℕ
nearest p [] = 0
nearest p (k ∷ l) = cond (p k) k (nearest p l)

-- there is one
abbrev pub any_in : (ℕ → Bool) → List ℕ → Bool
any_in p [] = false
any_in p (k ∷ l) = p k || any_in p l

unfoldable pub listed : ℕ → List ℕ → Bool
listed k l = any_in (λ j. eqb k j) l

-- what was passed of a list at place i, latest first
abbrev pub passed : List ℕ → ℕ → List ℕ
passed l i = reverse (take i l)

-- two events
abbrev pub pair : ℕ → ℕ → List ℕ
pair a b = a ∷ b ∷ []

-- each member stands before all those behind it, by an order R
abbrev pub Ordered : {A : Type 0} → (A → A → Type 0) → List A → Type 0
Ordered R [] = Unit {0}
Ordered {A} R (x ∷ l) = ((y : A) → Memᴰ y l → R x y) × Ordered R l

-- a list with ρ in its front, and the rest as it was
unfoldable pub in_front : List ℕ → List ℕ → List ℕ
in_front ρ list = ρ ++ drop (length ρ) list

-- ---- threads

-- the events of a list by the threads of a set
abbrev pub only : Trace → (ℕ → Bool) → List ℕ → List ℕ
only t s l = keep (λ k. s (thread_of t k)) l

-- the set of thread c alone, and that of all threads but m
unfoldable pub just : ℕ → ℕ → Bool
just c d = eqb d c

unfoldable pub all_but : ℕ → ℕ → Bool
all_but m d = not (just m d)

-- the events of a list by thread c
abbrev pub own : Trace → ℕ → List ℕ → List ℕ
own t c l = only t (just c) l

-- the different threads that have an event; the paper's number of threads is how many these are
unfoldable pub threads : Trace → List ℕ
threads [] = []
threads (e ∷ t) = cons_if (not (listed e.thread (threads t))) e.thread (threads t)

-- no number stands twice
abbrev pub Distinct : List ℕ → Type 0
Distinct [] = Unit {0}
Distinct (x ∷ l) = ¬ (x ∈ l) × Distinct l

-- a trace by at most two threads
abbrev pub TwoThreads : Trace → Type 0
TwoThreads t = length (threads t) ≤ 2

-- all events outside thread m are by thread c
abbrev pub OnlyBeside : Trace → ℕ → ℕ → Type 0
OnlyBeside t m c = (k : ℕ) → Valid t k → thread_of t k ≢ m → thread_of t k ≡ c
