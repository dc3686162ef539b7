-- Lists in an order of any kind, and the places of events in a history.
use Prim.Native.Nat.{ℕ, suc, ◌≤◌, ◌<◌, zero-le}
use native.Mathlib.Omega.{arith}
use mathlib.Core.Path.{◌≡◌, refl, sym}
use mathlib.Core.Logic.{◌⊎◌, inl, inr}
use mathlib.Core.Bool.{Bool, true, false, cond}
use mathlib.Core.List.Memᴰ
use mathlib.Core.List.{List, [], ◌∷◌, reverse, reverse_aux}
use lib.ListN.{length}
use lib.Dec.{eqb}
use borrow.Author.Tests.{eq-eqb, ne_eqb}
use Rattle.model.specs.Trace.{Trace}
use Rattle.model.specs.Lists.{◌∈◌, Ordered, nearest}
use Rattle.model.specs.Reordering.{Step}
use Rattle.model.proofs.Tests.{by_cases, in_cons, clash}
use Rattle.model.proofs.Histories.{Legal, enabled_out}

-- a history in an order: latest first
abbrev pub Down : (ℕ → ℕ → Type 0) → List ℕ → Type 0
Down F h = Ordered (λ x y. F y x) h

module _ (F : ℕ → ℕ → Type 0) where
  -- a history read forwards
  down_up : (l r : List ℕ) → Down F (reverse_aux l r) → Ordered F l × Down F r × ((x y : ℕ) → x ∈ l → y ∈ r → F y x)
  down_up [] r d = (tt, d, λ x y m n. absurd (Memᴰ.not-nil m))
  down_up (x ∷ l) r d =
      let ih = down_up l (x ∷ r) d in (
        ((λ y n. ih.2 y x n (Memᴰ.head refl)), ih.0),
        ih.1.1,
        λ u v m n. in_cons m (λ e. rw e (ih.1.0 v n)) (λ a. ih.2 u v a (Memᴰ.tail n)),
      )

  pub reverse_up : (l : List ℕ) → Down F (reverse l) → Ordered F l
  reverse_up l d = (down_up l [] d).0

  -- a list read backwards
  up_down : (l r : List ℕ) → Ordered F l → Down F r → ((x y : ℕ) → x ∈ l → y ∈ r → F y x) → Down F (reverse_aux l r)
  up_down [] r u d f = d
  up_down (x ∷ l) r u d f =
      up_down l (x ∷ r) u.1 ((λ y n. f x y (Memᴰ.head refl) n), d) (λ a b i j. in_cons j (λ e. rw e (u.0 a i)) (λ k. f a b (Memᴰ.tail i) k))

  pub reverse_down : (l : List ℕ) → Ordered F l → Down F (reverse l)
  reverse_down l u = up_down l [] u tt (λ x y i j. absurd (Memᴰ.not-nil j))

  -- the nearest of a history comes after every other that passes the test
  pub nearest_top : (p : ℕ → Bool) (h : List ℕ) → Down F h → (w : ℕ) → w ∈ h → p w ≡ true → (w ≡ nearest p h) ⊎ F w (nearest p h)
  nearest_top p [] d w n e = absurd (Memᴰ.not-nil n)
  nearest_top p (k ∷ h) d w n e =
      by_cases (p k)
      (λ f. rw f (in_cons n (λ q. inl q) (λ q. inr (d.0 w q))))
      (λ f. rw f (nearest_top p h d.1 w (in_cons n (λ q. clash (rw q at e) f) (λ q. q)) e))

down_map : (F G : ℕ → ℕ → Type 0) (h : List ℕ) → ((j k : ℕ) → j ∈ h → k ∈ h → F j k → G j k) → Down F h → Down G h
down_map F G [] f d = tt
down_map F G (x ∷ h) f d =
    ((λ y m. f y x (Memᴰ.tail m) (Memᴰ.head refl) (d.0 y m)), down_map F G h (λ j k m n. f j k (Memᴰ.tail m) (Memᴰ.tail n)) d.1)

-- ---- places in a history

-- the place of event k, counted from the earliest; 0 where it is not there
abbrev pub place : List ℕ → ℕ → ℕ
place [] k = 0
place (x ∷ h) k = cond (eqb x k) (suc (length h)) (place h k)

abbrev pub Sooner : List ℕ → ℕ → ℕ → Type 0
Sooner h j k = place h j < place h k

place-le : (h : List ℕ) (k : ℕ) → place h k ≤ length h
place-le [] k = zero-le
place-le (x ∷ h) k = let ih = place-le h k in by_cases (eqb x k) (λ e. rw e (omega arith)) (λ e. rw e (omega arith))

-- they grow along the history of a correct reordering
pub place_down : (t : Trace) (h : List ℕ) → Legal t h → Down (Sooner h) h
place_down t [] l = tt
place_down t (x ∷ h) l =
    let off : (y : ℕ) → y ∈ h → eqb x y ≡ false = λ y m. ne_eqb x y (λ z. enabled_out t h x l.0.enabled.next (rw (sym z) at m)) in (
      (λ y m. let z = place-le h y in rw (off y m, eq-eqb x x refl) (omega arith)),
      down_map (Sooner h) (Sooner (x ∷ h)) h (λ j k m n s. rw (off j m, off k n) s) (place_down t h l.1),
    )

-- what any numbers say that grow along the history
module _ (t : Trace) (number : ℕ → ℕ) where
  -- event k of the history h, and what stands before it
  pub record Stood (h : List ℕ) (k : ℕ) : Type 0 where
    pub past : List ℕ
    pub step : Step t past k
    pub legal : Legal t past
    pub down : Down (λ i j. number i < number j) past
    pub inside : (j : ℕ) → j ∈ past → j ∈ h
    pub before_it : (j : ℕ) → j ∈ past → number j < number k
    pub in_past : (j : ℕ) → j ∈ h → number j < number k → j ∈ past

  pub stood : (h : List ℕ) → Legal t h → Down (λ i j. number i < number j) h → (k : ℕ) → k ∈ h → Stood h k
  stood [] l d k m = absurd (Memᴰ.not-nil m)
  stood (x ∷ h) l d k m =
      in_cons m
      (λ e. record {
        past = h;
        step = rw e l.0;
        legal = l.1;
        down = d.1;
        inside = λ j n. Memᴰ.tail n;
        before_it = λ j n. rw e (d.0 j n);
        in_past = λ j n q. in_cons n (λ p. let z : number x < number x = rw (p, e) at q in absurd (omega arith)) (λ i. i);
      })
      (λ n.
      let s = stood h l.1 d.1 k n in record {
        past = s.past;
        step = s.step;
        legal = s.legal;
        down = s.down;
        inside = λ j i. Memᴰ.tail (s.inside j i);
        before_it = s.before_it;
        in_past = λ j i q. s.in_past j (in_cons i (λ p. let z = d.0 k n in let y : number x < number k = rw p at q in absurd (omega arith)) (λ u. u)) q;
      })
