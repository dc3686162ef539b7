-- The way to the tops: the event before each root, then each event up to a top brings in its own, until none is left.
use Rattle.std.specs.Prelude.{ℕ, ◌≤◌, ◌<◌, ◌≡◌, ◌≢◌, Bool, true, false, not, List, length, get_or, eqb, Result, Ok, Err}
use Rattle.model.specs.Trace.{Trace, Valid, thread_of}
use Rattle.model.specs.Lists.{◌∈◌}
use Rattle.model.specs.Good.{max_thread}
use Rattle.model.specs.Cone.{InCone}
use Rattle.table.specs.Links.{previous, waits_for, release_of, fork_of}
use Rattle.table.specs.declared.judged.Table.{Table}
use Rattle.table.specs.Judged.{events}
use Rattle.cone.specs.declared.RootInside.{RootInside}

-- ---- the roots by thread

-- a bar that no event reaches
abbrev pub no_root : ℕ
no_root = 65535

-- thread c is a root's
unfoldable pub has_root : List ℕ → ℕ → Bool
has_root bars c = not (eqb (get_or bars c 0) no_root)

-- place c is an event of thread c, or there is none
pub record Barred (t : Trace) (bars : List ℕ) : Type 0 where
  pub valid : (c : ℕ) → c ≤ max_thread → get_or bars c 0 ≢ no_root → Valid t (get_or bars c 0)
  pub thread : (c : ℕ) → c ≤ max_thread → get_or bars c 0 ≢ no_root → thread_of t (get_or bars c 0) ≡ c

-- these are the roots R
pub record Bars (t : Trace) (R bars : List ℕ) : Type 0 where
  pub barred : Barred t bars
  pub valid : (r : ℕ) → r ∈ R → Valid t r
  pub root : (c : ℕ) → c ≤ max_thread → get_or bars c 0 ≢ no_root → get_or bars c 0 ∈ R
  pub bar : (r : ℕ) → r ∈ R → get_or bars (thread_of t r) 0 ≡ r

-- ---- what is found

-- event k is in the cone of the roots that the bars are
pub record Within (t : Trace) (bars : List ℕ) (k : ℕ) : Type 0 where
  pub valid : Valid t k
  pub inside : (R : List ℕ) → Bars t R bars → InCone t R k

-- event k, if it is one, is in it
pub record Coming (t : Trace) (bars : List ℕ) (k : ℕ) : Type 0 where
  pub within : k ≢ 0 → Within t bars k

-- only events of the cone are up to a top, and no root is
pub record Sound (t : Trace) (bars tops : List ℕ) : Type 0 where
  pub long : max_thread < length tops
  pub within : (c : ℕ) → get_or tops c 0 ≢ 0 → Within t bars (get_or tops c 0)
  pub thread : (c : ℕ) → get_or tops c 0 ≢ 0 → thread_of t (get_or tops c 0) ≡ c
  pub below : (c : ℕ) → c ≤ max_thread → get_or tops c 0 < get_or bars c 0

-- a judged recording's table, the bars and the tops so far
pub record Raising (s : Table) (bars tops : List ℕ) : Type 0 where
  pub barred : Barred (events s) bars
  pub sound : Sound (events s) bars tops

-- no place falls
pub record Grown (l l' : List ℕ) : Type 0 where
  pub up : (c : ℕ) → get_or l c 0 ≤ get_or l' c 0

-- an error: a root is found to be in the cone; otherwise not yet, and G
pub data Answer (t : Trace) (bars : List ℕ) (G : Type 0) : Result (Unit {0}) RootInside → Type 0 where
  reached : {e : RootInside} {c : ℕ} → c ≤ max_thread → get_or bars c 0 ≢ no_root → Within t bars (get_or bars c 0) → Answer t bars G (Err e)
  going : {u : Unit {0}} → G → Answer t bars G (Ok u)

-- ---- the steps

-- event k, if it is one, is up to the top of its thread
pub record Raised (t : Trace) (bars : List ℕ) (k : ℕ) (tops tops' : List ℕ) : Type 0 where
  pub sound : Sound t bars tops'
  pub grown : Grown tops tops'
  pub covers : k ≤ get_or tops' (thread_of t k) 0

-- the fork of event k's thread, if it has one, is up to the top of its own
pub record Forked (t : Trace) (tops : List ℕ) (k : ℕ) : Type 0 where
  pub covers : fork_of t k ≤ get_or tops (thread_of t (fork_of t k)) 0

-- what event k brings in is up to the tops: its observed write or the joined thread's events and, where its thread is no root's, its matching release
pub record Brought (t : Trace) (bars tops : List ℕ) (k : ℕ) : Type 0 where
  pub seen : waits_for t k ≤ get_or tops (thread_of t (waits_for t k)) 0
  pub closing : has_root bars (thread_of t k) ≡ false → release_of t k ≤ get_or tops (thread_of t (release_of t k)) 0

-- event k has brought in its own, and no top fell
pub record BringsIn (t : Trace) (bars : List ℕ) (k : ℕ) (tops tops' : List ℕ) : Type 0 where
  pub sound : Sound t bars tops'
  pub grown : Grown tops tops'
  pub brought : Brought t bars tops' k

-- the events of its thread from event n back to event m, which is left out, have brought in their own
pub record Follows (t : Trace) (bars : List ℕ) (n m : ℕ) (tops tops' : List ℕ) : Type 0 where
  pub sound : Sound t bars tops'
  pub grown : Grown tops tops'
  pub followed : (j : ℕ) → Valid t j → thread_of t j ≡ thread_of t n → m < j → j ≤ n → Brought t bars tops' j

-- the events of each thread c up to place c of done have brought in their own, and the thread's fork
pub record Following (t : Trace) (bars done tops : List ℕ) : Type 0 where
  pub long : max_thread < length done
  pub sound : Sound t bars tops
  pub followed : (j : ℕ) → Valid t j → j ≤ get_or done (thread_of t j) 0 → Brought t bars tops j
  pub forked : (j : ℕ) → Valid t j → j ≤ get_or done (thread_of t j) 0 → Forked t tops j

-- a judged recording's table, the bars, the tops so far, and how far each thread was followed
pub record Going (s : Table) (bars done tops : List ℕ) : Type 0 where
  pub barred : Barred (events s) bars
  pub following : Following (events s) bars done tops

-- so have those of thread c up to its top
pub record Caught (t : Trace) (bars : List ℕ) (c : ℕ) (done done' tops tops' : List ℕ) : Type 0 where
  pub still : Following t bars done' tops'
  pub grown : Grown tops tops'
  pub further : Grown done done'
  pub reaches : get_or tops c 0 ≤ get_or done' c 0

-- so have those of the threads before thread n up to their tops
pub record Round (t : Trace) (bars : List ℕ) (n : ℕ) (done done' tops tops' : List ℕ) : Type 0 where
  pub still : Following t bars done' tops'
  pub grown : Grown tops tops'
  pub further : Grown done done'
  pub reaches : (c : ℕ) → c < n → get_or tops c 0 ≤ get_or done' c 0

-- some thread is behind its top, or none is
pub data Behind (done tops : List ℕ) : Bool → Type 0 where
  one_behind : {c : ℕ} → c ≤ max_thread → get_or done c 0 < get_or tops c 0 → Behind done tops true
  none_behind : ((c : ℕ) → c ≤ max_thread → get_or tops c 0 ≤ get_or done c 0) → Behind done tops false

-- r is a root
pub record IsRoot (t : Trace) (bars : List ℕ) (r : ℕ) : Type 0 where
  pub valid : Valid t r
  pub bar : get_or bars (thread_of t r) 0 ≡ r

-- the event before root r is up to the top of its thread, and so is the fork of that
pub record BeforeRoot (t : Trace) (bars : List ℕ) (r : ℕ) (tops tops' : List ℕ) : Type 0 where
  pub sound : Sound t bars tops'
  pub grown : Grown tops tops'
  pub covers : previous t r ≤ get_or tops' (thread_of t (previous t r)) 0
  pub forked : Forked t tops' r

-- so it is, and the thread was followed
pub record Started (t : Trace) (bars : List ℕ) (r : ℕ) (done tops tops' : List ℕ) : Type 0 where
  pub still : Following t bars done tops'
  pub grown : Grown tops tops'
  pub covers : previous t r ≤ get_or tops' (thread_of t (previous t r)) 0
  pub forked : Forked t tops' r

-- so are those before the roots from place i on
pub record Seeded (t : Trace) (bars R : List ℕ) (i : ℕ) (done tops : List ℕ) : Type 0 where
  pub still : Following t bars done tops
  pub covers : (n : ℕ) → i ≤ n → n < length R → previous t (get_or R n 0) ≤ get_or tops (thread_of t (previous t (get_or R n 0))) 0
  pub forked : (n : ℕ) → i ≤ n → n < length R → Forked t tops (get_or R n 0)
