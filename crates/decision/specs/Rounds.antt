-- The executable decision, first part: the cone by rounds.
use Rattle.std.specs.Prelude.{ℕ, zero, suc, Bool, ◌&&◌, ◌||◌, not, List, [], reverse, length, eqb, ltb}
use Rattle.model.specs.Trace.{Trace, read, acquire, thread_of, kind_of}
use Rattle.model.specs.Lists.{up_to, keep, any_in}
use Rattle.model.specs.Observed.{observed}
use Rattle.model.specs.Cone.{matching}
use Rattle.decision.specs.Check.{is_awaited}

-- ---- the least set of numbers up to n that has all that a step gives from it

-- after f rounds; the highest number first
unfoldable pub rounds : ℕ → (List ℕ → ℕ → Bool) → ℕ → List ℕ
rounds n step zero = []
rounds n step (suc f) = keep (step (rounds n step f)) (up_to n)

-- ---- the cone's rules as tests

unfoldable pub is_earlier : Trace → ℕ → ℕ → Bool
is_earlier t j k = ltb j k && eqb (thread_of t j) (thread_of t k)

unfoldable pub is_preceding : Trace → ℕ → ℕ → Bool
is_preceding t j k = is_earlier t j k || is_awaited t k j

unfoldable pub is_observed : Trace → ℕ → ℕ → Bool
is_observed t j k = eqb (kind_of t j) read && eqb (observed t j) k

unfoldable pub is_exempt : Trace → List ℕ → ℕ → Bool
is_exempt t R j = any_in (λ r. eqb (thread_of t r) (thread_of t j)) R

unfoldable pub is_closing : Trace → List ℕ → ℕ → ℕ → Bool
is_closing t R j k = eqb (kind_of t j) acquire && (not (is_exempt t R j) && eqb (matching t j) k)

-- event k is in the cone by rule (i)
unfoldable pub is_rooted : Trace → List ℕ → ℕ → Bool
is_rooted t R k = any_in (λ r. is_preceding t k r) R

-- event j brings event k into the cone, by rule (ii), (iii) or (iv)
unfoldable pub brings : Trace → List ℕ → ℕ → ℕ → Bool
brings t R j k = is_preceding t k j || (is_observed t j k || is_closing t R j k)

-- the cone's step: k is in it by rule (i), or a member of S brings it
unfoldable pub is_brought : Trace → List ℕ → List ℕ → ℕ → Bool
is_brought t R S k = is_rooted t R k || any_in (λ j. brings t R j k) S

-- the cone's events in the trace's order; as many rounds as events are enough
unfoldable pub cone : Trace → List ℕ → List ℕ
cone t R = reverse (rounds (length t) (is_brought t R) (length t))
