-- The one shown is unique, and what is shown brings both accesses next.
use Prim.Native.Nat.{ℕ}
use mathlib.Core.Path.{◌≡◌, refl, sym}
use mathlib.Core.Logic.{◌≢◌, ◌⊎◌, inl, inr, ⊎_elim}
use mathlib.Core.Bool.{Bool}
use mathlib.Core.List.{List, [], ◌∷◌, reverse, nil≢cons, head-eq_of_cons-eq, tail-eq_of_cons-eq}
use Rattle.model.specs.Trace.{Trace, Valid, thread_of}
use Rattle.model.specs.Lists.{◌∈◌, only, own, just, all_but, pair}
use Rattle.model.specs.Reordering.{BringsAll, BringsBoth}
use Rattle.model.specs.Cone.{root}
use Rattle.model.specs.Race.{Candidate, Increasing, Preferred, Shown, Witness, Conflicting}
use Rattle.model.proofs.Tests.{by_cases, just-true, just-false, true-all_but, false-all_but}
use Rattle.model.proofs.Lists.{mem_only, only_mem, mem_reverse, reverse_mem, increasing_unique}
use Rattle.model.proofs.Histories.{to_legal, own_increasing, enabled_by}
use Rattle.model.proofs.Threads.{conflicting_apart}

-- where two lists first differ, the one that takes an event outside the moved thread is preferred
others_first : (t : Trace) (m : ℕ) {x y : ℕ} (ρ τ : List ℕ) → thread_of t x ≢ m → thread_of t y ≡ m → Preferred t m (x ∷ ρ) (y ∷ τ)
others_first t m ρ τ p q = inr (p, q)

not_both_ways : (t : Trace) (m : ℕ) (ρ τ : List ℕ) → Preferred t m ρ τ → Preferred t m τ ρ → ⊥
not_both_ways t m [] τ f g = f
not_both_ways t m (x ∷ ρ) [] f g = f
not_both_ways t m (x ∷ ρ) (y ∷ τ) f g =
    ⊎_elim
    (λ p. ⊎_elim (λ q. not_both_ways t m ρ τ p.1 q.1) (λ q. q.0 (rw p.0 at q.1)) g)
    (λ p. ⊎_elim (λ q. p.0 (rw q.0 at p.1)) (λ q. p.0 q.1) g) f

pub shown_unique : (t : Trace) (R : List ℕ) (m : ℕ) (ρ τ : List ℕ) → Shown t R m ρ → Shown t R m τ → ρ ≡ τ
shown_unique t R m ρ τ p q =
    ⊎_elim (λ e. e) (λ f. ⊎_elim (λ e. sym e) (λ g. absurd (not_both_ways t m ρ τ f g)) (q.chosen ρ p.candidate)) (p.chosen τ q.candidate)

-- Two orders of the same events, where those of the moved thread and the others each keep their order, first differ at a place
-- where one takes an event of the moved thread and the other does not.
module _ (t : Trace) (m : ℕ) where
  abbrev Compared : List ℕ → List ℕ → Type 0
  Compared ρ τ = (ρ ≡ τ) ⊎ (Preferred t m ρ τ ⊎ Preferred t m τ ρ)

  same_head : (x y : ℕ) (ρ τ : List ℕ) → x ≡ y → Compared ρ τ → Compared (x ∷ ρ) (y ∷ τ)
  same_head x y ρ τ e c =
      ⊎_elim (λ p. inl (cc)) (λ p. inr (⊎_elim (λ q. inl (inl (e, q))) (λ q. inr (inl (sym e, q))) p)) c

  same_sides : (ρ τ : List ℕ) → own t m ρ ≡ own t m τ → only t (all_but m) ρ ≡ only t (all_but m) τ → Compared ρ τ
  same_sides [] [] p q = inl refl
  same_sides [] (y ∷ τ) p q =
      by_cases (just m (thread_of t y))
      (λ e. absurd (nil≢cons (rw e at p)))
      (λ e. let f = true-all_but m (thread_of t y) (just-false m (thread_of t y) e) in absurd (nil≢cons (rw f at q)))
  same_sides (x ∷ ρ) [] p q =
      by_cases (just m (thread_of t x))
      (λ e. absurd (nil≢cons (sym (rw e at p))))
      (λ e. let f = true-all_but m (thread_of t x) (just-false m (thread_of t x) e) in absurd (nil≢cons (sym (rw f at q))))
  same_sides (x ∷ ρ) (y ∷ τ) p q =
      by_cases (just m (thread_of t x))
      (λ e.
      by_cases (just m (thread_of t y))
      (λ f.
      let d : (x ∷ own t m ρ) ≡ (y ∷ own t m τ) = rw (e, f) at p in
      let o : only t (all_but m) ρ ≡ only t (all_but m) τ = rw (false-all_but m (thread_of t x) (just-true m (thread_of t x) e), false-all_but m (thread_of t y) (just-true m (thread_of t y) f)) at q in
      same_head x y ρ τ (head-eq_of_cons-eq d) (same_sides ρ τ (tail-eq_of_cons-eq d) o))
      (λ f. inr (inr (others_first t m τ ρ (just-false m (thread_of t y) f) (just-true m (thread_of t x) e)))))
      (λ e.
      by_cases (just m (thread_of t y))
      (λ f. inr (inl (others_first t m ρ τ (just-false m (thread_of t x) e) (just-true m (thread_of t y) f))))
      (λ f.
      let d : (x ∷ only t (all_but m) ρ) ≡ (y ∷ only t (all_but m) τ) =
      rw (true-all_but m (thread_of t x) (just-false m (thread_of t x) e), true-all_but m (thread_of t y) (just-false m (thread_of t y) f)) at q in
      same_head x y ρ τ (head-eq_of_cons-eq d) (same_sides ρ τ (rw (e, f) at p) (tail-eq_of_cons-eq d))))

-- two candidates that differ are told apart by the preference: the rule never meets two events outside the moved thread
pub preference_decides : (t : Trace) (R : List ℕ) (m : ℕ) (ρ τ : List ℕ) → Candidate t R m ρ → Candidate t R m τ → (ρ ≡ τ) ⊎ (Preferred t m ρ τ ⊎ Preferred t m τ ρ)
preference_decides t R m ρ τ c d =
    same_sides t m ρ τ (side (just m) (own_increasing t m ρ c.correct) (own_increasing t m τ d.correct)) (side (all_but m) c.order d.order)
  where
    side : (s : ℕ → Bool) → Increasing (only t s ρ) → Increasing (only t s τ) → only t s ρ ≡ only t s τ
    side s i j =
        increasing_unique (only t s ρ) (only t s τ) i j
        (λ k x. let y = mem_only t s k ρ x in only_mem t s ((d.members k).1 ((c.members k).0 y.0)) y.1)
        (λ k x. let y = mem_only t s k τ x in only_mem t s ((c.members k).1 ((d.members k).0 y.0)) y.1)

-- a candidate brings each root next
pub candidate_brings : (t : Trace) (R : List ℕ) (m : ℕ) (ρ : List ℕ) → ((r : ℕ) → r ∈ R → Valid t r) → Candidate t R m ρ → BringsAll t ρ R
candidate_brings t R m ρ v c = record {
  correct = c.correct;
  enabled = λ r x.
      enabled_by t (reverse ρ) (to_legal t ρ c.correct) r (v r x)
      (λ n. c.roots_out r x ((c.members r).0 (mem_reverse r ρ n)))
      (λ k p q e. reverse_mem ((c.members k).1 (root x (inl (record { first = p; less = q; thread = e })))))
      (λ j a. reverse_mem ((c.members j).1 (root x (inr a))));
}

pub witness-brings_both : (t : Trace) (a b : ℕ) (ρ : List ℕ) → Conflicting t a b → Witness t a b ρ → BringsBoth t ρ a b
witness-brings_both t a b ρ c s = candidate_brings t (pair a b) (thread_of t a) ρ (conflicting_apart t a b c).valid s.candidate
