-- The check gives each of its answers exactly in its case; it says yes exactly to a correct reordering that brings both accesses next.
use Prim.Native.Nat.{ℕ, zero, suc}
use mathlib.Core.Path.{◌≡◌, refl, ap₂}
use mathlib.Core.Logic.{◌⊎◌, inl, inr, ⊎_elim, ◌↔◌}
use mathlib.Core.Bool.{true, not, ◌&&◌, false≢true}
use mathlib.Core.List.{List, [], ◌∷◌, ◌++◌, reverse}
use lib.ListN.{length}
use lib.Dec.{eqb, leb}
use borrow.Author.Tests.{eqb-true, eq-eqb, leb-true, le-leb, not-true}
use Rattle.model.specs.Trace.{Trace, Valid, read, acquire, fork, join, thread_of, kind_of, object_of, does}
use Rattle.model.specs.Lists.{own, before, numbers, listed}
use Rattle.model.specs.Good.{Free}
use Rattle.model.specs.Awaits.{Awaits, forked, joined}
use Rattle.model.specs.Reordering.{Next, Ready, Sees, Step, Correct, CorrectFrom, EnabledAfter, BringsBoth}
use Rattle.model.specs.Rows.{Row, First, Quiet, Tested, numbered, first, or_zero}
use Rattle.model.specs.Check.{place_rows, list_rows, enabled_rows, check_rows, CheckAnswer}
use Rattle.decision.specs.Check.{same_list, is_valid, is_next, is_seen, is_open, is_free, is_awaited, is_ready, place_tests, place_fault, first_of, fault_from, is_correct, is_enabled, check}
use Rattle.model.proofs.Tests.{by_cases, clash, both, true_both, either_true, true-either, or_right, false_test, does-true, true-does}
use Rattle.model.proofs.Lists.{any_mem, mem_any, mem_listed, listed_mem, numbers_mem}
use Rattle.model.proofs.AwaitsExact.{awaits_valid}
use Rattle.model.proofs.Threads.{for_pair, in_pair_a, in_pair_b}
use Rattle.model.proofs.RowsExact.{first-only, none_quiet, quiet_none, both_quiet, quiet_both, not_exactly, kind_exactly, surely, tests_number, number_only, skip, stop}

-- ---- rows after rows

numbers-first : (l m : List Row) (a b : ℕ) → First l (numbered a) → First m (numbered b) → First (l ++ m) (numbered (first_of a b))
numbers-first l m zero b f g = skip l m _ (none_quiet l f) g
numbers-first l m (suc a) b f g = stop l m _ f

-- ---- the tests

pub same-eq : (l r : List ℕ) → same_list l r ≡ true → l ≡ r
unfolding same_list
same-eq [] [] e = refl
same-eq [] (y ∷ r) e = absurd (false≢true e)
same-eq (x ∷ l) [] e = absurd (false≢true e)
same-eq (x ∷ l) (y ∷ r) e =
    let p = both (eqb x y) (same_list l r) e in ap₂ (λ (a : ℕ) (b : List ℕ). a ∷ b) (eqb-true x y p.0) (same-eq l r p.1)

pub same_refl : (l : List ℕ) → same_list l l ≡ true
unfolding same_list
same_refl [] = refl
same_refl (x ∷ l) = true_both (eq-eqb x x refl) (same_refl l)

open_true : (c o : ℕ) → is_open c o ≡ true → (o ≡ 0) ⊎ (o ≡ suc c)
open_true c o e = ⊎_elim (λ p. inl (eqb-true _ _ p)) (λ p. inr (eqb-true _ _ p)) (either_true (eqb o 0) (eqb o (suc c)) e)

true_open : (c o : ℕ) → (o ≡ 0) ⊎ (o ≡ suc c) → is_open c o ≡ true
true_open c o s = true-either (eqb o 0) (eqb o (suc c)) (⊎_elim (λ p. inl (eq-eqb _ _ p)) (λ p. inr (eq-eqb _ _ p)) s)

module _ (t : Trace) where
  pub valid_true : (k : ℕ) → is_valid t k ≡ true → Valid t k
  unfolding is_valid
  valid_true k e = let p = both (leb 1 k) (leb k (length t)) e in record { positive = leb-true 1 k p.0; bounded = leb-true k (length t) p.1 }

  pub true_valid : (k : ℕ) → Valid t k → is_valid t k ≡ true
  unfolding is_valid
  true_valid k v = true_both (le-leb 1 k v.positive) (le-leb k (length t) v.bounded)

  pub awaited_true : (k j : ℕ) → is_awaited t k j ≡ true → Awaits t k j
  unfolding is_awaited
  awaited_true k j e =
      ⊎_elim
      (λ p. let d = does-true t fork (thread_of t k) j p in forked d.0 d.1)
      (λ p.
      let q = both (eqb (kind_of t k) join) _ p in
      let r = both (is_valid t j) (eqb (thread_of t j) (object_of t k)) q.1 in
      joined (eqb-true _ _ q.0) (valid_true j r.0) (eqb-true _ _ r.1))
      (either_true (does t fork (thread_of t k) j) _ e)

  pub true_awaited : (k j : ℕ) → Awaits t k j → is_awaited t k j ≡ true
  unfolding is_awaited
  true_awaited k j (forked f o) = rw (true-does t fork (thread_of t k) j f o)
  true_awaited k j (joined f v o) = or_right (does t fork (thread_of t k) j) (true_both (eq-eqb _ _ f) (true_both (true_valid j v) (eq-eqb _ _ o)))

  module _ (h : List ℕ) (k : ℕ) where
    pub ready_true : is_ready t h k ≡ true → Ready t h k
    unfolding is_ready
    ready_true e j a =
        by_cases (listed j h) (λ d. listed_mem j h d) (λ d.
        let n : is_awaited t k j && not (listed j h) ≡ true = rw (true_awaited k j a, d) in
        clash (any_mem (λ j. is_awaited t k j && not (listed j h)) (numbers_mem t j (awaits_valid t k j a)) n) (not-true _ e))

    pub true_ready : Ready t h k → is_ready t h k ≡ true
    unfolding is_ready
    true_ready r =
        rw (false_test {P = ⊥} (λ e.
        let x = mem_any (λ j. is_awaited t k j && not (listed j h)) (numbers t) e in
        let p = both (is_awaited t k x.0) _ x.2 in
        clash (mem_listed (r x.0 (awaited_true k x.0 p.0))) (not-true _ p.1)) (λ z. z))

    pub next-true : is_next t h k ≡ true → Next t h k
    unfolding is_next
    next-true e = let p = both (is_valid t k) _ e in record { valid = valid_true k p.0; turn = same-eq _ _ p.1 }

    pub true-next : Next t h k → is_next t h k ≡ true
    unfolding is_next
    true-next en = true_both (true_valid k en.valid) (rw en.turn (same_refl (own t (thread_of t k) (before k))))

    pub seen_true : is_seen t h k ≡ true → Sees t h k
    unfolding is_seen
    seen_true e = eqb-true _ _ e

    pub true_seen : Sees t h k → is_seen t h k ≡ true
    unfolding is_seen
    true_seen e = eq-eqb _ _ e

    pub free_true : is_free t h k ≡ true → Free t h k
    unfolding is_free
    free_true e = open_true (thread_of t k) _ e

    pub true_free : Free t h k → is_free t h k ≡ true
    unfolding is_free
    true_free e = true_open (thread_of t k) _ e

    -- ---- one place

    place_tested : Tested (place_tests t h k) (place_rows t h k)
    unfolding place_tests
    place_tested = (
      not_exactly (valid_true k) (true_valid k),
      (not_exactly next-true true-next, (kind_exactly seen_true true_seen (kind_of t k) read, (kind_exactly free_true true_free (kind_of t k) acquire, (not_exactly ready_true true_ready, tt)))),
    )

    place-first : First (place_rows t h k) (numbered (place_fault t h k))
    unfolding place_fault
    place-first = tests_number (place_tests t h k) (21 ∷ 22 ∷ 23 ∷ 24 ∷ 27 ∷ []) (place_rows t h k) place_tested refl refl

    quiet_step : Quiet (place_rows t h k) → Step t h k
    quiet_step q = record {
      enabled = record { next = surely next-true true-next q.1.0; ready = surely ready_true true_ready q.1.1.1.1.0 };
      sees = λ r. surely seen_true true_seen (λ n. q.1.1.0 (r, n));
      free = λ r. surely free_true true_free (λ n. q.1.1.1.0 (r, n));
    }

    step_quiet : Step t h k → Quiet (place_rows t h k)
    step_quiet s = ((λ n. n s.enabled.next.valid), ((λ n. n s.enabled.next), ((λ p. p.1 (s.sees p.0)), ((λ p. p.1 (s.free p.0)), ((λ n. n s.enabled.ready), tt)))))

    pub clean_step : place_fault t h k ≡ 0 → Step t h k
    clean_step e = quiet_step (none_quiet (place_rows t h k) (rw e at place-first))

  -- ---- the list

  list_first : (h ρ : List ℕ) → First (list_rows t h ρ) (numbered (fault_from t h ρ))
  unfolding fault_from
  list_first h [] = refl
  list_first h (k ∷ ρ) = numbers-first (place_rows t h k) (list_rows t (k ∷ h) ρ) (place_fault t h k) (fault_from t (k ∷ h) ρ) (place-first h k) (list_first (k ∷ h) ρ)

  quiet_correct : (h ρ : List ℕ) → Quiet (list_rows t h ρ) → CorrectFrom t h ρ
  quiet_correct h [] q = tt
  quiet_correct h (k ∷ ρ) q = let x = both_quiet (place_rows t h k) (list_rows t (k ∷ h) ρ) q in (quiet_step h k x.0, quiet_correct (k ∷ h) ρ x.1)

  correct_quiet : (h ρ : List ℕ) → CorrectFrom t h ρ → Quiet (list_rows t h ρ)
  correct_quiet h [] c = tt
  correct_quiet h (k ∷ ρ) c = quiet_both (place_rows t h k) (list_rows t (k ∷ h) ρ) (step_quiet h k c.0) (correct_quiet (k ∷ h) ρ c.1)

  -- correct exactly where no place has a fault
  pub correct_exactly : (ρ : List ℕ) → (is_correct t ρ ≡ true) ↔ Correct t ρ
  unfolding is_correct
  correct_exactly ρ = (
    (λ e. let z = eqb-true (fault_from t [] ρ) 0 e in quiet_correct [] ρ (none_quiet (list_rows t [] ρ) (rw z at (list_first [] ρ)))),
    (λ c. eq-eqb _ _ (number_only (fault_from t [] ρ) 0 (first-only (list_rows t [] ρ) (list_first [] ρ) (quiet_none (list_rows t [] ρ) (correct_quiet [] ρ c))))),
  )

  -- ---- the check

  module _ (ρ : List ℕ) (k : ℕ) where
    enabled_true : is_enabled t ρ k ≡ true → EnabledAfter t ρ k
    unfolding is_enabled
    enabled_true e = let p = both (is_next t (reverse ρ) k) _ e in record { next = next-true (reverse ρ) k p.0; ready = ready_true (reverse ρ) k p.1 }

    true_enabled : EnabledAfter t ρ k → is_enabled t ρ k ≡ true
    unfolding is_enabled
    true_enabled e = true_both (true-next (reverse ρ) k e.next) (true_ready (reverse ρ) k e.ready)

  module _ (a b : ℕ) (ρ : List ℕ) where
    check-first : First (check_rows t a b ρ) (numbered (check t a b ρ))
    unfolding check
    check-first =
        let m = not (is_enabled t ρ a) ∷ not (is_enabled t ρ b) ∷ [] in
        numbers-first (list_rows t [] ρ) (enabled_rows t a b ρ) (fault_from t [] ρ) (or_zero (first m (25 ∷ 26 ∷ []))) (list_first [] ρ)
        (tests_number m (25 ∷ 26 ∷ []) (enabled_rows t a b ρ) (not_exactly (enabled_true ρ a) (true_enabled ρ a), (not_exactly (enabled_true ρ b) (true_enabled ρ b), tt)) refl refl)

    -- each answer is given exactly in its case
    pub check_exactly : (n : ℕ) → (check t a b ρ ≡ n) ↔ CheckAnswer t a b ρ n
    check_exactly n = ((λ e. record { first = rw e at check-first }), (λ c. number_only (check t a b ρ) n (first-only (check_rows t a b ρ) check-first c.first)))

    -- yes exactly to a correct reordering that brings both accesses next
    pub yes_exactly : (check t a b ρ ≡ 0) ↔ BringsBoth t ρ a b
    yes_exactly = (
      (λ e.
          let q = both_quiet (list_rows t [] ρ) (enabled_rows t a b ρ) (none_quiet (check_rows t a b ρ) ((check_exactly 0).0 e).first) in record {
            correct = quiet_correct [] ρ q.0;
            enabled = for_pair (EnabledAfter t ρ) (surely (enabled_true ρ a) (true_enabled ρ a) q.1.0) (surely (enabled_true ρ b) (true_enabled ρ b) q.1.1.0);
          }),
      (λ c. (check_exactly 0).1 (record {
        first = skip (list_rows t [] ρ) (enabled_rows t a b ρ) _ (correct_quiet [] ρ c.correct)
            (inr ((λ f. f (c.enabled a (in_pair_a a b))), inr ((λ f. f (c.enabled b (in_pair_b a b))), refl)));
      })),
    )
