-- Judging a trace event by event: the rows' tests.
use Rattle.std.specs.Prelude.{suc, ℕ, Bool, false, ◌&&◌, ◌||◌, not, List, [], ◌∷◌, length, eqb, leb}
use Rattle.model.specs.Trace.{Trace, acquire, release, fork, join, thread_of, kind_of, object_of, does}
use Rattle.model.specs.Lists.{before, numbers, any_in, just}
use Rattle.model.specs.Good.{is_known_kind, max_events, max_thread, object_limit, holder}
use Rattle.decision.specs.Check.{is_free}

-- a history has a fork, or a join, of thread c; it has an event by thread c
unfoldable pub is_forked : Trace → List ℕ → ℕ → Bool
is_forked t h c = any_in (λ j. does t fork c j) h

unfoldable pub is_joined : Trace → List ℕ → ℕ → Bool
is_joined t h c = any_in (λ j. does t join c j) h

unfoldable pub is_begun : Trace → List ℕ → ℕ → Bool
is_begun t h c = any_in (λ j. just c (thread_of t j)) h

-- event k is a fork or join of its own thread; a second fork of one thread
unfoldable pub is_self : Trace → ℕ → Bool
is_self t k = (eqb (kind_of t k) fork || eqb (kind_of t k) join) && eqb (object_of t k) (thread_of t k)

unfoldable pub is_second : Trace → ℕ → Bool
is_second t k = eqb (kind_of t k) fork && is_forked t (before k) (object_of t k)

-- of event k
unfoldable pub event_tests : Trace → ℕ → List Bool
event_tests t k =
    not (is_known_kind (kind_of t k))
    ∷ not (leb (thread_of t k) max_thread)
    ∷ not (leb (object_of t k) (object_limit (kind_of t k)))
    ∷ (is_self t k || is_second t k)
    ∷ (eqb (kind_of t k) fork && is_begun t (before k) (object_of t k))
    ∷ is_joined t (before k) (thread_of t k)
    ∷ (eqb (kind_of t k) acquire && not (is_free t (before k) k))
    ∷ (eqb (kind_of t k) release && not (eqb (holder t (object_of t k) (before k)) (suc (thread_of t k))))
    ∷ []

abbrev pub any_true : List Bool → Bool
any_true [] = false
any_true (b ∷ l) = b || any_true l

-- the trace is good
unfoldable pub is_good : Trace → Bool
is_good t = leb (length t) max_events && not (any_in (λ k. any_true (event_tests t k)) (numbers t))
