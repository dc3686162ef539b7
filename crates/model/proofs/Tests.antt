-- Going by cases, and what the definitions' tests say.
use Prim.Native.Nat.{ℕ, zero, suc, ◌≤◌}
use native.Mathlib.Omega.{arith}
use mathlib.Core.Path.{◌≡◌, refl, sym, ◌∙◌, ap}
use mathlib.Core.Logic.{◌≢◌, ◌⊎◌, inl, inr, ⊎_elim}
use mathlib.Core.Bool.{Bool, true, false, ◌&&◌, ◌||◌, true≢false, false≢true}
use mathlib.Core.List.Memᴰ
use mathlib.Core.List.{List, ◌∷◌, Memᴰ}
use lib.ListN.{length, get_or-eq_default}
use lib.Dec.{eqb, leb, ltb}
use borrow.Author.Tests.{eqb-true, eq-eqb, ne_eqb, le-leb, ltb-true, ltb-false}
use Rattle.model.specs.Trace.{Trace, Event, Valid, no_event, fork, kind_of, object_of, does}
use Rattle.model.specs.Lists.{just, all_but}
use Rattle.model.specs.Good.{Good, max_thread, max_object, object_limit}

pub by_cases {ℓ} : {G : Type ℓ} (b : Bool) → (b ≡ true → G) → (b ≡ false → G) → G
by_cases true f g = f refl
by_cases false f g = g refl

pub in_cons {ℓ} : {G : Type ℓ} {A : Type 0} {k j : A} {l : List A} → Memᴰ k (j ∷ l) → (k ≡ j → G) → (Memᴰ k l → G) → G
in_cons m f g = ⊎_elim f g (Memᴰ.cases_cons m)

pub clash {ℓ} : {G : Type ℓ} {b : Bool} → b ≡ true → b ≡ false → G
clash p q = absurd (true≢false (sym p ∙ q))

pub both : (b c : Bool) → b && c ≡ true → (b ≡ true) × (c ≡ true)
both true c e = (refl, e)
both false c e = absurd (false≢true e)

pub true_both : {b c : Bool} → b ≡ true → c ≡ true → b && c ≡ true
true_both p q = rw (p, q)

pub either_true : (b c : Bool) → b || c ≡ true → (b ≡ true) ⊎ (c ≡ true)
either_true true c e = inl refl
either_true false c e = inr e

pub or_right : (b : Bool) {c : Bool} → c ≡ true → b || c ≡ true
or_right true e = refl
or_right false e = e

pub true-either : (b c : Bool) → (b ≡ true) ⊎ (c ≡ true) → b || c ≡ true
true-either b c s = ⊎_elim (λ e. rw e) (λ e. or_right b e) s

-- a test that says what it is for
pub false_test : {P : Type 0} {b : Bool} → (b ≡ true → P) → ¬ P → b ≡ false
false_test {b = b} f n = by_cases b (λ e. absurd (n (f e))) (λ e. e)

pub test_false : {P : Type 0} {b : Bool} → (P → b ≡ true) → b ≡ false → ¬ P
test_false f e p = clash (f p) e

-- ---- threads

pub just-true : (c d : ℕ) → just c d ≡ true → d ≡ c
unfolding just
just-true c d e = eqb-true d c e

pub true-just : (c d : ℕ) → d ≡ c → just c d ≡ true
unfolding just
true-just c d e = eq-eqb d c e

pub false-just : (c d : ℕ) → d ≢ c → just c d ≡ false
unfolding just
false-just c d ne = ne_eqb d c ne

pub just-false : (c d : ℕ) → just c d ≡ false → d ≢ c
just-false c d e z = clash (true-just c d z) e

pub all_but-true : (m d : ℕ) → all_but m d ≡ true → d ≢ m
unfolding all_but
all_but-true m d e z = let q = true-just m d z in false≢true (rw q at e)

pub true-all_but : (m d : ℕ) → d ≢ m → all_but m d ≡ true
unfolding all_but
true-all_but m d ne = rw (false-just m d ne)

pub false-all_but : (m d : ℕ) → d ≡ m → all_but m d ≡ false
unfolding all_but
false-all_but m d e = rw (true-just m d e)

-- ---- what an event does

module _ (t : Trace) (c x k : ℕ) where
  pub does-true : does t c x k ≡ true → (kind_of t k ≡ c) × (object_of t k ≡ x)
  unfolding does
  does-true e = let p = both (eqb (kind_of t k) c) (eqb (object_of t k) x) e in (eqb-true _ _ p.0, eqb-true _ _ p.1)

  pub true-does : kind_of t k ≡ c → object_of t k ≡ x → does t c x k ≡ true
  unfolding does
  true-does p q = true_both (eq-eqb _ _ p) (eq-eqb _ _ q)

  -- an event of another kind does not
  pub false-does : kind_of t k ≢ c → does t c x k ≡ false
  unfolding does
  false-does ne = rw (ne_eqb (kind_of t k) c ne)

  -- nor one on another object
  pub not_on : x ≢ object_of t k → does t c x k ≡ false
  not_on ne = false_test does-true (λ d. ne (sym d.1))

-- what is of some kind is an event
pub kind_valid : (t : Trace) (k : ℕ) → kind_of t k ≢ 0 → Valid t k
kind_valid t zero ne = absurd (ne refl)
kind_valid t (suc k) ne =
    by_cases (ltb k (length t))
    (λ e. let l = ltb-true k (length t) e in record { positive = omega arith; bounded = omega arith })
    (λ e. absurd (ne (ap (λ (x : Event). x.kind) (get_or-eq_default t no_event {n = k} (ltb-false k (length t) e)))))

-- ---- limits

-- no object is above the limit of cells and locks
pub limit_small : (c : ℕ) → object_limit c ≤ max_object
limit_small c = by_cases (leb fork c) (λ e. rw e (omega arith)) (λ e. rw e (omega arith))

-- and that of a fork or join is a thread
pub child_small : (t : Trace) (k : ℕ) → object_of t k ≤ object_limit (kind_of t k) → fork ≤ kind_of t k → object_of t k ≤ max_thread
child_small t k p f = rw (le-leb fork (kind_of t k) f) at p

pub object_small : (t : Trace) → Good t → (k : ℕ) → Valid t k → object_of t k ≤ max_object
object_small t g k v = let p = g.object-limit k v in let q = limit_small (kind_of t k) in omega arith
