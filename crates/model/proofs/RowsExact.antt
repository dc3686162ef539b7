-- Where each test is true exactly in its row's case and answers what its row has, the first test that is true answers as the rows do: each row exactly in its case, in this order.
use Prim.Native.Nat.{ℕ, zero, suc}
use native.Mathlib.Omega.{arith}
use mathlib.Core.Path.{◌≡◌, refl, sym, ◌∙◌, ap}
use mathlib.Core.Logic.{inl, inr, ⊎_elim, ◌↔◌}
use mathlib.Core.Bool.{Bool, true, ◌&&◌, not}
use mathlib.Core.Option.{Option, none, some, none-ne-some, some-ne-none, some-injective}
use mathlib.Core.List.Memᴰ
use mathlib.Core.List.{List, [], ◌∷◌, ◌++◌, map, nil≢cons, head-eq_of_cons-eq, tail-eq_of_cons-eq}
use lib.Dec.{eqb, ltb}
use borrow.Author.Tests.{eqb-true, eq-eqb, ltb-true, not-true}
use Rattle.model.specs.Lists.{◌∈◌}
use Rattle.model.specs.Rows.{Answer, Row, First, Quiet, alone, numbered, rows_of, first, either, or_zero, said, Tested}
use Rattle.model.proofs.Tests.{by_cases, in_cons, clash, both, true_both, false_test, test_false}

-- ---- rows

-- rows have one answer
pub first-only : (l : List Row) {a b : Option Answer} → First l a → First l b → a ≡ b
first-only [] e f = e ∙ sym f
first-only (r ∷ l) f g =
    ⊎_elim
    (λ p. ⊎_elim (λ q. p.1 ∙ sym q.1) (λ q. absurd (q.0 p.0)) g)
    (λ p. ⊎_elim (λ q. absurd (p.0 q.0)) (λ q. first-only l p.1 q.1) g) f

-- none exactly where no row is the case
pub none_quiet : (l : List Row) → First l none → Quiet l
none_quiet [] f = tt
none_quiet (r ∷ l) f = ⊎_elim (λ p. absurd (none-ne-some _ p.1)) (λ p. (p.0, none_quiet l p.1)) f

pub quiet_none : (l : List Row) → Quiet l → First l none
quiet_none [] q = refl
quiet_none (r ∷ l) q = inr (q.0, quiet_none l q.1)

-- rows after rows: the first that has a case decides
pub skip : (l m : List Row) (o : Option Answer) → Quiet l → First m o → First (l ++ m) o
skip [] m o q f = f
skip (r ∷ l) m o q f = inr (q.0, skip l m o q.1 f)

pub stop : (l m : List Row) (x : Answer) → First l (some x) → First (l ++ m) (some x)
stop [] m x f = absurd (some-ne-none _ f)
stop (r ∷ l) m x f = ⊎_elim inl (λ p. inr (p.0, stop l m x p.1)) f

pub quiet_both : (l m : List Row) → Quiet l → Quiet m → Quiet (l ++ m)
quiet_both [] m p q = q
quiet_both (r ∷ l) m p q = (p.0, quiet_both l m p.1 q)

pub both_quiet : (l m : List Row) → Quiet (l ++ m) → Quiet l × Quiet m
both_quiet [] m q = (tt, q)
both_quiet (r ∷ l) m q = let x = both_quiet l m q.1 in ((q.0, x.0), x.1)

module _ (f : ℕ → List Row) where
  pub quiet_each : (l : List ℕ) → ((k : ℕ) → k ∈ l → Quiet (f k)) → Quiet (rows_of f l)
  quiet_each [] g = tt
  quiet_each (k ∷ l) g = quiet_both (f k) (rows_of f l) (g k (Memᴰ.head refl)) (quiet_each l (λ j m. g j (Memᴰ.tail m)))

  pub each_quiet : (l : List ℕ) → Quiet (rows_of f l) → (k : ℕ) → k ∈ l → Quiet (f k)
  each_quiet [] q k m = absurd (Memᴰ.not-nil m)
  each_quiet (j ∷ l) q k m = let x = both_quiet (f j) (rows_of f l) q in in_cons m (λ e. rw e x.0) (λ n. each_quiet l x.1 k n)

-- ---- tests

-- a test of what a row asks to be otherwise; one of events of a kind alone
module _ {P : Type 0} {b : Bool} (to : b ≡ true → P) (from : P → b ≡ true) where
  pub not_exactly : (not b ≡ true) ↔ ¬ P
  not_exactly = ((λ e. test_false from (not-true b e)), (λ n. rw (false_test to n)))

  pub kind_exactly : (x c : ℕ) → (eqb x c && not b ≡ true) ↔ ((x ≡ c) × ¬ P)
  kind_exactly x c = (
    (λ e. let p = both (eqb x c) (not b) e in (eqb-true x c p.0, not_exactly.0 p.1)),
    (λ p. true_both (eq-eqb x c p.0) (not_exactly.1 p.1)),
  )

  pub surely : ¬ ¬ P → P
  surely n = by_cases b to (λ e. absurd (n (test_false from e)))

module _ {A : Type 0} (paper : A → Answer) where
  -- the tests answer as their rows do
  pub tests_first : (m : List Bool) (n : List A) (l : List Row) → Tested m l → map paper n ≡ map (λ (r : Row). r.answer) l → First l (said paper (first m n))
  tests_first [] n [] t e = refl
  tests_first [] n (r ∷ l) t e = elim t [ ]
  tests_first (b ∷ m) [] [] t e = elim t [ ]
  tests_first (b ∷ m) (x ∷ n) [] t e = elim t [ ]
  tests_first (b ∷ m) [] (r ∷ l) t e = absurd (nil≢cons e)
  tests_first (b ∷ m) (x ∷ n) (r ∷ l) t e =
      by_cases b
      (λ p. inl (t.0.0 p, rw p (ap some (head-eq_of_cons-eq e))))
      (λ p. inr ((λ c. clash (t.0.1 c) p), rw p (tests_first m n l t.1 (tail-eq_of_cons-eq e))))

  pub append-first : (l m : List Row) (a b : Option A) → First l (said paper a) → First m (said paper b) → First (l ++ m) (said paper (either a b))
  append-first l m none b f g = skip l m _ (none_quiet l f) g
  append-first l m (some x) b f g = stop l m _ f

  -- so what is computed is what the rows have, and nothing else, where different answers have different numbers or go with different events
  pub first_exactly : ((x y : A) → paper x ≡ paper y → x ≡ y) → (l : List Row) (a : Option A) → First l (said paper a) → (b : Option A) → (a ≡ b) ↔ First l (said paper b)
  first_exactly one l a f b = ((λ e. rw e at f), (λ g. same a b (first-only l f g)))
    where
      same : (a b : Option A) → said paper a ≡ said paper b → a ≡ b
      same none none e = refl
      same none (some y) e = absurd (none-ne-some _ e)
      same (some x) none e = absurd (some-ne-none _ e)
      same (some x) (some y) e = ap some (one x y (some-injective _ _ e))

-- ---- numbers alone, 0 for none

abbrev pub positive : List Row → Bool
positive [] = true
positive (r ∷ l) = ltb 0 r.answer.number && positive l

pub zero-none : (l : List Row) → positive l ≡ true → First l (some (alone 0)) → ⊥
zero-none [] p f = some-ne-none _ f
zero-none (r ∷ l) p f =
    let q = both (ltb 0 r.answer.number) (positive l) p in
    ⊎_elim
    (λ x.
    let e : 0 ≡ r.answer.number = ap (λ (a : Answer). a.number) (some-injective (alone 0) r.answer x.1) in
    let z = ltb-true 0 r.answer.number q.0 in omega arith)
    (λ x. zero-none l q.1 x.1) f

pub tests_number : (m : List Bool) (n : List ℕ) (l : List Row) → Tested m l → map alone n ≡ map (λ (r : Row). r.answer) l → positive l ≡ true → First l (numbered (or_zero (first m n)))
tests_number m n l t e p = go (first m n) (tests_first alone m n l t e)
  where
    go : (o : Option ℕ) → First l (said alone o) → First l (numbered (or_zero o))
    go none f = f
    go (some zero) f = absurd (zero-none l p f)
    go (some (suc k)) f = f

pub number_only : (a b : ℕ) → numbered a ≡ numbered b → a ≡ b
number_only zero zero e = refl
number_only zero (suc b) e = absurd (none-ne-some _ e)
number_only (suc a) zero e = absurd (some-ne-none _ e)
number_only (suc a) (suc b) e = ap (λ (x : Answer). x.number) (some-injective _ _ e)
