-- A thread's own depth: which acquires and releases of a re-entrant lock count.
-- Only the outermost acquire and its last release do, in matching, in the cone's rule (iv) and in "no lock acquired while held"; inner ones are events like others.
use Rattle.std.specs.Prelude.{ℕ, suc, ◌≡◌, ◌≢◌, ◌↔◌, Bool, true, cond, ◌&&◌, List, ◌∷◌, eqb, leb}
use Rattle.model.specs.Trace.{Trace, acquire, release, thread_of, kind_of, object_of}
use Rattle.model.specs.Lists.{before, own}
use Rattle.model.specs.Good.{depth, holder, Free}
use Rattle.model.specs.Reordering.{Next}

-- how deep event k's thread holds event k's lock just before it, by the thread's own events alone
unfoldable pub own_depth : Trace → ℕ → ℕ
own_depth t k = depth t (object_of t k) (own t (thread_of t k) (before k))

-- an outermost acquire; a last release, after which no level is left
unfoldable pub is_outermost : Trace → ℕ → Bool
is_outermost t k = eqb (kind_of t k) acquire && eqb (own_depth t k) 0

unfoldable pub is_last : Trace → ℕ → Bool
is_last t k = eqb (kind_of t k) release && leb (own_depth t k) 1

-- what a thread's own depth says of the locks after a history
pub record OwnDepths (t : Trace) (h : List ℕ) : Type 0 where
  -- it is the lock's depth where the thread holds it, and 0 where it does not
  pub own-depth : (c x : ℕ) → depth t x (own t c h) ≡ cond (eqb (holder t x h) (suc c)) (depth t x h) 0
  -- a lock has no holder just where its depth is 0
  pub unheld : (x : ℕ) → (holder t x h ≡ 0) ↔ (depth t x h ≡ 0)
  -- the next acquire of a thread is an outermost one exactly where its thread does not hold the lock; of these alone is asked that nobody does
  pub outermost : (k : ℕ) → Next t h k → kind_of t k ≡ acquire → (is_outermost t k ≡ true) ↔ (holder t (object_of t k) h ≢ suc (thread_of t k))
  pub taken : (k : ℕ) → Next t h k → kind_of t k ≡ acquire → Free t h k ↔ (is_outermost t k ≡ true → holder t (object_of t k) h ≡ 0)
  -- its next release is a last one exactly where nobody holds the lock after it
  pub last : (k : ℕ) → Next t h k → kind_of t k ≡ release → (is_last t k ≡ true) ↔ (holder t (object_of t k) (k ∷ h) ≡ 0)
