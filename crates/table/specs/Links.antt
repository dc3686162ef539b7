-- What each event is linked to.
use Rattle.std.specs.Prelude.{ℕ, cond, ◌&&◌, ◌||◌, List, length, eqb}
use Rattle.model.specs.Trace.{Trace, read, write, acquire, release, fork, join, thread_of, kind_of, object_of, does}
use Rattle.model.specs.Lists.{before, up_to, nearest, just}
use Rattle.model.specs.Observed.{observed}
use Rattle.model.specs.Sections.{own_depth, is_outermost, is_last}
use Rattle.model.specs.Cone.{matching}

-- the last event of thread c in a history; 0 where there is none
abbrev pub last_of : Trace → List ℕ → ℕ → ℕ
last_of t h c = nearest (λ j. just c (thread_of t j)) h

-- the event before k in its thread
unfoldable pub previous : Trace → ℕ → ℕ
previous t k = last_of t (before k) (thread_of t k)

-- the last event of thread c; 0 where it has none
abbrev pub last_by : Trace → ℕ → ℕ
last_by t c = last_of t (up_to (length t)) c

-- what a read or a join waits for: the observed write, 0 where it sees the start; the last event of the joined thread, 0 where that has none; 0 for every other event
unfoldable pub waits_for : Trace → ℕ → ℕ
waits_for t k = cond (eqb (kind_of t k) read) (observed t k) (cond (eqb (kind_of t k) join) (last_by t (object_of t k)) 0)

-- the last fork of thread c in a history; 0 where there is none
abbrev pub last_fork : Trace → ℕ → List ℕ → ℕ
last_fork t c h = nearest (λ j. does t fork c j) h

-- the fork of its thread
unfoldable pub fork_of : Trace → ℕ → ℕ
fork_of t k = last_fork t (thread_of t k) (before k)

-- how deep its thread holds its lock just before an acquire or release; 0 for every other event
unfoldable pub lock_depth : Trace → ℕ → ℕ
lock_depth t k = cond (eqb (kind_of t k) acquire || eqb (kind_of t k) release) (own_depth t k) 0

-- where the section ends that event k begins or ends: the matching release of an outermost acquire, a last release itself; 0 where there is none, and for every other event
unfoldable pub release_of : Trace → ℕ → ℕ
release_of t k = cond (is_last t k) k (matching t k)

-- the last outermost acquire of lock x in a history; 0 where there is none
abbrev pub last_taken : Trace → ℕ → List ℕ → ℕ
last_taken t x h = nearest (λ j. is_outermost t j && eqb (object_of t j) x) h

-- where the interval begins that event k is in: a write, and for a read its observed write; an outermost acquire, and for a last release the acquire of its section;
-- 0 where there is none, and for every other event
unfoldable pub began : Trace → ℕ → ℕ
began t k =
    cond (eqb (kind_of t k) write) k
    (cond (eqb (kind_of t k) read) (observed t k)
    (cond (is_outermost t k) k
    (cond (is_last t k) (last_taken t (object_of t k) (before k)) 0)))
