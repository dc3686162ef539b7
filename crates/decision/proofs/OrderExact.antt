-- Answers in order: the tests, and the first of a list after some numbers, are what they should be.
use Prim.Native.Nat.{ℕ, ◌<◌}
use native.Mathlib.Omega.{arith}
use mathlib.Core.Path.{◌≡◌, refl, sym, ◌∙◌, ap, subst}
use mathlib.Core.Logic.{◌⊎◌, inl, inr, ⊎_elim, ◌↔◌}
use mathlib.Core.Bool.{true, false, ◌&&◌}
use mathlib.Core.Option.{Option, none, some, none-ne-some, some-ne-none, some-injective}
use mathlib.Core.List.Memᴰ
use mathlib.Core.List.{List, [], ◌∷◌, Memᴰ}
use lib.Dec.{eqb, ltb}
use borrow.Author.Tests.{eqb-true, eq-eqb, ltb-true, lt-ltb}
use Rattle.model.specs.Listing.{After, Sorted, Listing, FirstAfter}
use Rattle.model.proofs.Tests.{by_cases, in_cons, clash, both, true_both, either_true, true-either, false_test}
use Rattle.decision.specs.Order.{is_after, rest_after, first_after}

-- ---- the test

after-true : (x y : List ℕ) → is_after x y ≡ true → After x y
unfolding is_after
after-true [] y e = clash e refl
after-true (a ∷ x) [] e = clash e refl
after-true (a ∷ x) (b ∷ y) e =
    ⊎_elim (λ p. inl (ltb-true a b p)) (λ p. let q = both (eqb a b) (is_after x y) p in inr (eqb-true a b q.0, after-true x y q.1))
    (either_true (ltb a b) (eqb a b && is_after x y) e)

pub true-after : (x y : List ℕ) → After x y → is_after x y ≡ true
unfolding is_after
true-after [] y c = absurd c
true-after (a ∷ x) [] c = absurd c
true-after (a ∷ x) (b ∷ y) c =
    true-either (ltb a b) (eqb a b && is_after x y) (⊎_elim (λ p. inl (lt-ltb a b p)) (λ p. inr (true_both (eq-eqb a b p.0) (true-after x y p.1))) c)

pub false-after : (x y : List ℕ) → ¬ After x y → is_after x y ≡ false
false-after x y n = false_test (after-true x y) n

-- of two lists only one comes after the other
pub not_both : (x y : List ℕ) → After x y → After y x → ⊥
not_both [] y f g = f
not_both (a ∷ x) [] f g = f
not_both (a ∷ x) (b ∷ y) f g =
    ⊎_elim (λ p. ⊎_elim (λ q. omega arith) (λ q. let d = q.0 in omega arith) g)
    (λ p. ⊎_elim (λ q. let d = p.0 in omega arith) (λ q. not_both x y p.1 q.1) g)
    f

pub not_itself : (x : List ℕ) → ¬ After x x
not_itself x f = not_both x x f f

-- behind the last number nothing is left to compare
pub by_last : {b d : ℕ} → (b < d) ⊎ ((b ≡ d) × ⊥) → b < d
by_last c = ⊎_elim (λ p. p) (λ p. absurd p.1) c

-- ---- the first of a list

module _ {A : Type 0} (of : A → List ℕ) (k : List ℕ) where
  first_some : (l : List A) → Sorted of l → (x : A) → first_after of k l ≡ some x → FirstAfter of (λ y. Memᴰ y l) k x
  first_some [] s x e = absurd (none-ne-some _ e)
  first_some (j ∷ l) s x e =
      by_cases (is_after k (of j))
      (λ p.
      let q : j ≡ x = some-injective _ _ (rw p at e) in
      record {
        answer = Memᴰ.head (sym q);
        later = subst (λ (y : A). After k (of y)) q (after-true k (of j) p);
        least = λ y m f. in_cons m (λ d. inl (d ∙ q)) (λ n. inr (subst (λ (z : A). After (of z) (of y)) q (s.0 y n)));
      })
      (λ p.
      let ih = first_some l s.1 x (rw p at e) in
      record {
        answer = Memᴰ.tail ih.answer;
        later = ih.later;
        least = λ y m f. in_cons m (λ d. clash (true-after k (of j) (subst (λ (z : A). After k (of z)) d f)) p) (λ n. ih.least y n f);
      })

  first-none : (l : List A) → first_after of k l ≡ none → (y : A) → Memᴰ y l → ¬ After k (of y)
  first-none [] e y m f = Memᴰ.not-nil m
  first-none (j ∷ l) e y m f =
      by_cases (is_after k (of j))
      (λ p. some-ne-none _ (rw p at e))
      (λ p. in_cons m (λ d. clash (true-after k (of j) (subst (λ (z : A). After k (of z)) d f)) p) (λ n. first-none l (rw p at e) y n f))

  module _ {Is : A → Type 0} {l : List A} (is : Listing of Is l) where
    first_is : (x : A) → first_after of k l ≡ some x → FirstAfter of Is k x
    first_is x e =
        let r = first_some l is.sorted x e in
        record { answer = (is.members x).0 r.answer; later = r.later; least = λ y z f. r.least y ((is.members y).1 z) f }

    none_is : first_after of k l ≡ none → (x : A) → Is x → ¬ After k (of x)
    none_is e x r = first-none l e x ((is.members x).1 r)

    -- the first of the listing is the first answer after k
    pub first-after_exactly : (x : A) → (first_after of k l ≡ some x) ↔ FirstAfter of Is k x
    first-after_exactly x = (first_is x, (λ f. go f (first_after of k l) refl))
      where
        go : FirstAfter of Is k x → (o : Option A) → first_after of k l ≡ o → first_after of k l ≡ some x
        go f none e = absurd (none_is e x f.answer f.later)
        go f (some y) e =
            let g = first_is y e in
            let q : y ≡ x =
            ⊎_elim (λ d. d) (λ d. ⊎_elim (λ c. sym c) (λ c. absurd (not_both (of x) (of y) d c)) (g.least x f.answer f.later)) (f.least y g.answer g.later) in
            e ∙ ap some q

    -- and there is none exactly where no answer comes after k
    pub none-after_exactly : (first_after of k l ≡ none) ↔ ((x : A) → Is x → ¬ After k (of x))
    none-after_exactly = (none_is, (λ f. go f (first_after of k l) refl))
      where
        go : ((x : A) → Is x → ¬ After k (of x)) → (o : Option A) → first_after of k l ≡ o → first_after of k l ≡ none
        go f none e = e
        go f (some y) e = let g = first_is y e in absurd (f y g.answer g.later)

-- ---- those from it on

module _ {A : Type 0} (of : A → List ℕ) where
  -- where all come after k, all are left
  pub all_after : (k : List ℕ) (l : List A) → ((y : A) → Memᴰ y l → After k (of y)) → rest_after of k l ≡ l
  all_after k [] f = refl
  all_after k (x ∷ l) f = rw (true-after k (of x) (f x (Memᴰ.head refl)))

  pub none_after : (k : List ℕ) (l : List A) → first_after of k l ≡ none → rest_after of k l ≡ []
  none_after k [] e = refl
  none_after k (y ∷ l) e =
      by_cases (is_after k (of y))
      (λ p. absurd (some-ne-none _ (rw p at e)))
      (λ p. rw p (none_after k l (rw p at e)))

  -- the first, and those after it
  pub first_rest : (k : List ℕ) (l : List A) → Sorted of l → (x : A) → first_after of k l ≡ some x → rest_after of k l ≡ x ∷ rest_after of (of x) l
  first_rest k [] s x e = absurd (none-ne-some _ e)
  first_rest k (y ∷ l) s x e =
      by_cases (is_after k (of y))
      (λ p.
      let q : y ≡ x = some-injective _ _ (rw p at e) in
      subst (λ (z : A). rest_after of k (y ∷ l) ≡ z ∷ rest_after of (of z) (y ∷ l)) q (rw (p, false-after (of y) (of y) (not_itself (of y)), all_after (of y) l s.0)))
      (λ p.
      let m = (first_some of k l s.1 x (rw p at e)).answer in
      rw (p, false-after (of x) (of y) (not_both (of y) (of x) (s.0 x m))) (first_rest k l s.1 x (rw p at e)))
