-- The computed cone is the least set with the cone's rules.
use Prim.Native.Nat.{ℕ, ◌≤◌}
use native.Mathlib.Omega.{arith}
use mathlib.Core.Path.{◌≡◌, ap}
use mathlib.Core.Logic.{◌⊎◌, inl, inr, ⊎_elim, ◌↔◌}
use mathlib.Core.Bool.{Bool, true, false, ◌&&◌, not}
use mathlib.Core.List.{List, reverse}
use lib.ListN.{length}
use lib.Dec.{eqb, ltb}
use borrow.Author.Tests.{eqb-true, eq-eqb, ltb-true, lt-ltb, not-true}
use Rattle.model.specs.Trace.{Trace, Valid, read, acquire, thread_of, kind_of}
use Rattle.model.specs.Lists.{◌∈◌, up_to, keep}
use Rattle.model.specs.Observed.{observed}
use Rattle.model.specs.Cone.{InCone, Brings, Earlier, Precedes, Outside, root, brought, precedes, observes, closes, matching}
use Rattle.model.specs.Race.{Increasing}
use Rattle.decision.specs.Rounds.{is_brought, rounds, is_earlier, is_preceding, is_rooted, is_observed, is_exempt, is_closing, brings, cone}
use Rattle.model.proofs.Tests.{by_cases, clash, both, true_both, either_true, true-either, or_right}
use Rattle.model.proofs.Lists.{any_mem, mem_any, mem_reverse, reverse_mem, increasing_reverse}
use Rattle.model.proofs.ConeEvents.{cone_valid}
use Rattle.decision.specs.Check.{is_awaited}
use Rattle.decision.proofs.CheckExact.{awaited_true, true_awaited}
use Rattle.decision.proofs.LeastSet.{Monotone, rounds_fixed, least_step, least_in}

module _ (t : Trace) (R : List ℕ) where
  -- ---- the tests

  earlier_true : (j k : ℕ) → 1 ≤ j → is_earlier t j k ≡ true → Earlier t j k
  unfolding is_earlier
  earlier_true j k p e =
      let q = both (ltb j k) (eqb (thread_of t j) (thread_of t k)) e in record { first = p; less = ltb-true j k q.0; thread = eqb-true _ _ q.1 }

  true_earlier : (j k : ℕ) → Earlier t j k → is_earlier t j k ≡ true
  unfolding is_earlier
  true_earlier j k e = true_both (lt-ltb j k e.less) (eq-eqb _ _ e.thread)

  preceding_true : (j k : ℕ) → 1 ≤ j → is_preceding t j k ≡ true → Precedes t j k
  unfolding is_preceding
  preceding_true j k p e = ⊎_elim (λ a. inl (earlier_true j k p a)) (λ a. inr (awaited_true t k j a)) (either_true (is_earlier t j k) (is_awaited t k j) e)

  true_preceding : (j k : ℕ) → Precedes t j k → is_preceding t j k ≡ true
  unfolding is_preceding
  true_preceding j k x = true-either (is_earlier t j k) (is_awaited t k j) (⊎_elim (λ e. inl (true_earlier j k e)) (λ a. inr (true_awaited t k j a)) x)

  pub exempt_false : (j : ℕ) → is_exempt t R j ≡ false → Outside t R j
  unfolding is_exempt
  exempt_false j e r m p = clash (any_mem (λ i. eqb (thread_of t i) (thread_of t j)) m (eq-eqb _ _ p)) e

  pub false_exempt : (j : ℕ) → Outside t R j → is_exempt t R j ≡ false
  unfolding is_exempt
  false_exempt j out =
      by_cases (is_exempt t R j) (λ e. let r = mem_any (λ i. eqb (thread_of t i) (thread_of t j)) R e in absurd (out r.0 r.1 (eqb-true _ _ r.2))) (λ e. e)

  -- ---- in the cone by the rules exactly when in the computed cone

  rooted_cone : (k : ℕ) → 1 ≤ k → is_rooted t R k ≡ true → InCone t R k
  unfolding is_rooted
  rooted_cone k p e = let r = mem_any (λ r. is_preceding t k r) R e in root r.1 (preceding_true k r.0 p r.2)

  brings-true : (j k : ℕ) → 1 ≤ k → brings t R j k ≡ true → Brings t R j k
  unfolding brings is_observed is_closing
  brings-true j k p e =
      by_cases (is_preceding t k j)
      (λ a. precedes (preceding_true k j p a))
      (λ a.
      by_cases (is_observed t j k)
      (λ b.
      let r = both (eqb (kind_of t j) read) (eqb (observed t j) k) b in
      observes (eqb-true _ _ r.0) (eqb-true _ _ r.1) (omega arith))
      (λ b.
      let r = both (eqb (kind_of t j) acquire) (not (is_exempt t R j) && eqb (matching t j) k) (rw (a, b) at e) in
      let s = both (not (is_exempt t R j)) (eqb (matching t j) k) r.1 in
      closes (eqb-true _ _ r.0) (exempt_false j (not-true _ s.0)) (eqb-true _ _ s.1) (omega arith)))

  true-brings : (j k : ℕ) → Brings t R j k → brings t R j k ≡ true
  unfolding brings is_observed is_closing
  true-brings j k (precedes e) = rw (true_preceding k j e)
  true-brings j k (observes r o ne) = or_right (is_preceding t k j) (rw (eq-eqb _ _ r, eq-eqb _ _ o))
  true-brings j k (closes a out o ne) = or_right (is_preceding t k j) (or_right (is_observed t j k) (rw (eq-eqb _ _ a, false_exempt j out) (eq-eqb _ _ o)))

  brought_cases : (l : List ℕ) (k : ℕ) → is_brought t R l k ≡ true → (is_rooted t R k ≡ true) ⊎ ((j : ℕ) × (j ∈ l) × (brings t R j k ≡ true))
  unfolding is_brought
  brought_cases l k e = ⊎_elim inl (λ p. inr (mem_any (λ j. brings t R j k) l p)) (either_true (is_rooted t R k) _ e)

  cases_brought : (l : List ℕ) (k : ℕ) → (is_rooted t R k ≡ true) ⊎ ((j : ℕ) × (j ∈ l) × (brings t R j k ≡ true)) → is_brought t R l k ≡ true
  unfolding is_brought
  cases_brought l k c = true-either (is_rooted t R k) _ (⊎_elim inl (λ p. inr (any_mem (λ j. brings t R j k) p.1 p.2)) c)

  monotone : Monotone (is_brought t R)
  monotone l r sub k e = cases_brought r k (⊎_elim inl (λ p. inr (p.0, sub p.0 p.1, p.2)) (brought_cases l k e))

  abbrev found : List ℕ
  found = rounds (length t) (is_brought t R) (length t)

  module _ (v : (r : ℕ) → r ∈ R → Valid t r) where
    cone-found : {k : ℕ} → InCone t R k → k ∈ found
    unfolding is_rooted
    cone-found {k} (root {r = r} m e) =
        let u = cone_valid t R v (root m e) in
        least_step (length t) (is_brought t R) monotone k u.positive u.bounded (cases_brought found k (inl (any_mem (λ r. is_preceding t k r) m (true_preceding k r e))))
    cone-found {k = j} (brought {k = k} x b) =
        let u = cone_valid t R v (brought x b) in
        least_step (length t) (is_brought t R) monotone j u.positive u.bounded (cases_brought found j (inr (k, cone-found x, true-brings k j b)))

    -- the computed cone is the cone
    pub cone_exactly : (k : ℕ) → (k ∈ cone t R) ↔ InCone t R k
    unfolding cone
    cone_exactly k = (
      (λ m.
          least_in (length t) (is_brought t R) monotone (λ j. InCone t R j)
          (λ l g i p e. ⊎_elim (λ x. rooted_cone i p x) (λ x. brought (g x.0 x.1) (brings-true x.0 i p x.2)) (brought_cases l i e)) (length t) k (mem_reverse k found m)),
      (λ x. reverse_mem (cone-found x)),
    )

  -- it is made by a test, so it is in the trace's order
  pub cone_made : (g : ℕ → Bool) × (cone t R ≡ reverse (keep g (up_to (length t))))
  unfolding cone
  cone_made = (is_brought t R found, ap reverse (rounds_fixed (length t) (is_brought t R) monotone))

  pub cone_increasing : Increasing (cone t R)
  cone_increasing = let c = cone_made in rw c.1 (increasing_reverse c.0 (length t))
