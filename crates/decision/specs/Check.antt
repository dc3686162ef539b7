-- The check of a proposed list, computed.
use Rattle.std.specs.Prelude.{ℕ, zero, suc, Bool, true, false, ◌&&◌, ◌||◌, not, List, [], ◌∷◌, reverse, length, eqb, leb}
use Rattle.model.specs.Trace.{Trace, read, acquire, fork, join, thread_of, kind_of, object_of, does}
use Rattle.model.specs.Lists.{own, before, numbers, any_in, listed}
use Rattle.model.specs.Observed.{last_write, observed}
use Rattle.model.specs.Good.{holder}
use Rattle.model.specs.Rows.{first, or_zero}

unfoldable pub same_list : List ℕ → List ℕ → Bool
same_list [] [] = true
same_list [] (y ∷ r) = false
same_list (x ∷ l) [] = false
same_list (x ∷ l) (y ∷ r) = eqb x y && same_list l r

-- the tests of the rules, for event k after the history h
unfoldable pub is_valid : Trace → ℕ → Bool
is_valid t k = leb 1 k && leb k (length t)

unfoldable pub is_next : Trace → List ℕ → ℕ → Bool
is_next t h k = is_valid t k && same_list (own t (thread_of t k) h) (own t (thread_of t k) (before k))

unfoldable pub is_seen : Trace → List ℕ → ℕ → Bool
is_seen t h k = eqb (last_write t (object_of t k) h) (observed t k)

-- thread c may acquire a lock with this holder: nobody, or c itself
abbrev pub is_open : ℕ → ℕ → Bool
is_open c o = eqb o 0 || eqb o (suc c)

unfoldable pub is_free : Trace → List ℕ → ℕ → Bool
is_free t h k = is_open (thread_of t k) (holder t (object_of t k) h)

-- event k waits for event j
unfoldable pub is_awaited : Trace → ℕ → ℕ → Bool
is_awaited t k j = does t fork (thread_of t k) j || (eqb (kind_of t k) join && (is_valid t j && eqb (thread_of t j) (object_of t k)))

-- all that it waits for is in the history
unfoldable pub is_ready : Trace → List ℕ → ℕ → Bool
is_ready t h k = not (any_in (λ j. is_awaited t k j && not (listed j h)) (numbers t))

-- the rows' tests at one place, and the fault there, 0 for none
unfoldable pub place_tests : Trace → List ℕ → ℕ → List Bool
place_tests t h k =
    not (is_valid t k)
    ∷ not (is_next t h k)
    ∷ (eqb (kind_of t k) read && not (is_seen t h k))
    ∷ (eqb (kind_of t k) acquire && not (is_free t h k))
    ∷ not (is_ready t h k)
    ∷ []

unfoldable pub place_fault : Trace → List ℕ → ℕ → ℕ
place_fault t h k = or_zero (first (place_tests t h k) (21 ∷ 22 ∷ 23 ∷ 24 ∷ 27 ∷ []))

-- the first of two faults
abbrev pub first_of : ℕ → ℕ → ℕ
first_of zero g = g
first_of (suc f) g = suc f

-- the first fault of a list by place
unfoldable pub fault_from : Trace → List ℕ → List ℕ → ℕ
fault_from t h [] = 0
fault_from t h (k ∷ ρ) = first_of (place_fault t h k) (fault_from t (k ∷ h) ρ)

-- a correct reordering
unfoldable pub is_correct : Trace → List ℕ → Bool
is_correct t ρ = eqb (fault_from t [] ρ) 0

-- enabled after the whole list
unfoldable pub is_enabled : Trace → List ℕ → ℕ → Bool
is_enabled t ρ k = is_next t (reverse ρ) k && is_ready t (reverse ρ) k

-- the check's answer, 0 for yes
unfoldable pub check : Trace → ℕ → ℕ → List ℕ → ℕ
check t a b ρ = first_of (fault_from t [] ρ) (or_zero (first (not (is_enabled t ρ a) ∷ not (is_enabled t ρ b) ∷ []) (25 ∷ 26 ∷ [])))
