-- The executable decision, second part: the least staircase of two lists, and the merge that it gives.
-- P are the moved thread's events of the cone and Q the others', each in the trace's order. A merge of the two is a staircase g: the events
-- of P that stand before an event q of Q are those up to g q. A rule of a correct reordering says that an event of P must stand before one of Q,
-- or that it must not. The least staircase has what must, and no more: if its merge is not correct, none is; if it is, it is the one shown.
use Rattle.std.specs.Prelude.{ℕ, zero, suc, ◌*◌, Bool, true, false, cond, ◌&&◌, ◌||◌, not, List, [], ◌∷◌, map, reverse, length, eqb, leb, ltb}
use Rattle.model.specs.Trace.{Trace, read, write, kind_of, object_of, does}
use Rattle.model.specs.Lists.{nearest, any_in, listed}
use Rattle.model.specs.Observed.{observed}
use Rattle.model.specs.Sections.{is_outermost}
use Rattle.model.specs.Cone.{matching}
use Rattle.decision.specs.Check.{same_list, is_awaited}
use Rattle.decision.specs.Rounds.{is_observed}

-- ---- intervals: a write with the reads that observed it; a section, from its outermost acquire to its matching release

-- event k begins one
unfoldable pub is_opening : Trace → ℕ → Bool
is_opening t k = eqb (kind_of t k) write || is_outermost t k

-- events j and k begin intervals on one cell, or on one lock
unfoldable pub is_alike : Trace → ℕ → ℕ → Bool
is_alike t j k = (is_opening t j && is_opening t k) && (eqb (kind_of t j) (kind_of t k) && eqb (object_of t j) (object_of t k))

-- event k is in the interval that event v begins
unfoldable pub is_within : Trace → ℕ → ℕ → Bool
is_within t v k = eqb k v || (is_observed t k v || eqb (matching t v) k)

-- ---- lower bounds: p of P must stand before q of Q, whatever the staircase

-- q overwrote what p read, which was not P's own
unfoldable pub is_overwriting : Trace → List ℕ → ℕ → ℕ → Bool
is_overwriting t P p q = (eqb (kind_of t p) read && not (listed (observed t p) P)) && (does t write (object_of t p) q && ltb p q)

-- p is a write, and a later read of P observed q
unfoldable pub is_read_over : Trace → List ℕ → ℕ → ℕ → Bool
is_read_over t P p q = any_in (λ k. is_observed t k q && (does t write (object_of t k) p && ltb p k)) P

-- q's section does not end in Q, and p is in a section of P on its lock
unfoldable pub is_unended : Trace → List ℕ → List ℕ → ℕ → ℕ → Bool
is_unended t P Q p q = (is_outermost t q && not (listed (matching t q) Q)) && any_in (λ v. is_alike t v q && is_within t v p) P

-- or q waits for p, or observed it
unfoldable pub is_bound : Trace → List ℕ → List ℕ → ℕ → ℕ → Bool
is_bound t P Q p q = is_awaited t q p || (is_observed t q p || (is_overwriting t P p q || (is_read_over t P p q || is_unended t P Q p q)))

-- ---- and where the staircase is g

-- the interval of p begins before an event of q's interval, on one cell or one lock: it ends before q
unfoldable pub is_kept_apart : Trace → List ℕ → List ℕ → (ℕ → ℕ) → ℕ → ℕ → Bool
is_kept_apart t P Q g p q = any_in (λ v. (is_alike t v q && is_within t v p) && any_in (λ k. is_within t q k && leb v (g k)) Q) P

-- p stands before an earlier event of Q
unfoldable pub is_rising : List ℕ → (ℕ → ℕ) → ℕ → ℕ → Bool
is_rising Q g p q = any_in (λ k. ltb k q && leb p (g k)) Q

unfoldable pub is_forced : Trace → List ℕ → List ℕ → (ℕ → ℕ) → ℕ → ℕ → Bool
is_forced t P Q g p q = is_bound t P Q p q || (is_kept_apart t P Q g p q || is_rising Q g p q)

-- ---- the least staircase, as a list with a stair for each event of Q

-- the stair of event q; 0 where there is none
abbrev pub stair_in : List ℕ → List ℕ → ℕ → ℕ
stair_in [] l q = 0
stair_in (k ∷ Q) [] q = 0
stair_in (k ∷ Q) (x ∷ l) q = cond (eqb k q) x (stair_in Q l q)

-- each event of Q raised to the last event of P that must stand before it
unfoldable pub raised : Trace → List ℕ → List ℕ → List ℕ → List ℕ
raised t P Q l = map (λ q. nearest (λ p. is_forced t P Q (stair_in Q l) p q) (reverse P)) Q

-- until nothing rises, at most f times
unfoldable pub settled : Trace → List ℕ → List ℕ → ℕ → List ℕ → List ℕ
settled t P Q zero l = l
settled t P Q (suc f) l = let r = raised t P Q l in elim (same_list r l) [ true ↦ l | false ↦ settled t P Q f r ]

-- no stair is above the trace's length, so that many times are enough
unfoldable pub least_stairs : Trace → List ℕ → List ℕ → List ℕ
least_stairs t P Q = settled t P Q (suc (length Q * length t)) []

-- ---- the merge by a staircase: Q's next event, but P's where that is not above the stair of Q's

unfoldable pub climb : (ℕ → ℕ) → List ℕ → List ℕ → List ℕ
climb g [] Q = Q
climb g (p ∷ P) [] = p ∷ P
climb g (p ∷ P) (q ∷ Q) = elim (leb p (g q)) [ true ↦ p ∷ climb g P (q ∷ Q) | false ↦ q ∷ climb g (p ∷ P) Q ]

-- by the least
unfoldable pub least_merge : Trace → List ℕ → List ℕ → List ℕ
least_merge t P Q = let l = least_stairs t P Q in climb (stair_in Q l) P Q
