-- The ways through the test of a conflicting pair.
use Prim.Native.Nat.{ℕ, ◌≤◌, ◌<◌}
use native.Mathlib.Omega.{arith}
use mathlib.Core.Path.{◌≡◌, sym, ◌∙◌}
use mathlib.Core.Bool.{Bool, false}
use lib.ListN.{length}
use lib.Dec.{eqb}
use borrow.Author.Tests.{eq-eqb, ne_eqb, lt-ltb, eqb-true, eqb-false}
use Rattle.model.specs.Trace.{Trace, thread_of, kind_of, object_of}
use Rattle.model.specs.Race.{Conflicting}
use Rattle.decision.specs.Decision.{is_access, is_conflicting}
use Rattle.model.proofs.Tests.{false_test, by_cases}
use Rattle.decision.proofs.CheckExact.{true_valid}
use Rattle.decision.proofs.ListingExact.{conflicting_exactly}
use Rattle.limits.specs.declared.Event.{Event}
use Rattle.table.specs.Conflicts.{Lower, IsEvent, accesses, in_conflict}

-- ---- the pair

module _ (t : Trace) (a b : ℕ) where
  no-pair : (Conflicting t a b → ⊥) → false ≡ is_conflicting t a b
  no-pair n = sym (false_test (conflicting_exactly t a b).0 n)

  pub below : a < 1 → false ≡ is_conflicting t a b
  below h = no-pair (λ c. let p = c.first.positive in omega arith)

  pub not_lower : b ≤ a → false ≡ is_conflicting t a b
  not_lower h = no-pair (λ c. let p = c.lower in omega arith)

  pub above : (n : ℕ) → n ≡ length t → n < b → false ≡ is_conflicting t a b
  above n l h = no-pair (λ c. let p = c.second.bounded in omega arith)

  pub other_cell : (x y : ℕ) → x ≡ object_of t a → y ≡ object_of t b → (x ≡ y → ⊥) → false ≡ is_conflicting t a b
  other_cell x y e f n = no-pair (λ c. n (e ∙ c.cell ∙ sym f))

  pub same_thread : (x y : ℕ) → x ≡ thread_of t a → y ≡ thread_of t b → x ≡ y → false ≡ is_conflicting t a b
  same_thread x y e f q = no-pair (λ c. c.threads (sym e ∙ q ∙ f))

  module _ (l : Lower t a b) (x y : ℕ) (ex : x ≡ object_of t a) (ey : y ≡ object_of t b) (cell : x ≡ y) (c d : ℕ) (ec : c ≡ thread_of t a) (ed : d ≡ thread_of t b) (apart : c ≡ d → ⊥) where
    pub by_kinds : (k j : ℕ) → k ≡ kind_of t a → j ≡ kind_of t b → (r : Bool) → r ≡ accesses k j → r ≡ is_conflicting t a b
    unfolding is_conflicting is_access accesses
    by_kinds k j ek ej r e =
        rw (true_valid t a l.first, true_valid t b l.second, lt-ltb a b l.lower, ne_eqb (thread_of t a) (thread_of t b) (λ q. apart (ec ∙ q ∙ sym ed)), eq-eqb (object_of t a) (object_of t b) (sym ex ∙ cell ∙ ey), ← ek, ← ej)
        e

-- ---- the test of two events

module _ {t : Trace} {a b : ℕ} (l : Lower t a b) {e f : Event} (p : IsEvent t a e) (q : IsEvent t b f) where
  pub conflict_is : (r : Bool) → r ≡ in_conflict e f → r ≡ is_conflicting t a b
  unfolding in_conflict
  conflict_is r h =
      by_cases (eqb e.object f.object)
      (λ o.
      by_cases (eqb e.thread.number f.thread.number)
      (λ c. (rw (o, c) at h) ∙ same_thread t a b _ _ p.thread q.thread (eqb-true _ _ c))
      (λ c. by_kinds t a b l _ _ p.object q.object (eqb-true _ _ o) _ _ p.thread q.thread (eqb-false _ _ c) e.kind f.kind p.kind q.kind r (rw (o, c) at h)))
      (λ o. (rw o at h) ∙ other_cell t a b _ _ p.object q.object (eqb-false _ _ o))
