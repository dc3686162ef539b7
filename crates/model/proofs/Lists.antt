-- Lists of event numbers: those that pass a test, the trace's own, a list read backwards, and lists in order.
use Prim.Native.Nat.{ℕ, zero, suc, ◌+◌, ◌≤◌, ◌<◌}
use native.Mathlib.Omega.{arith}
use native.Mathlib.Nat.{zero-add}
use mathlib.Core.Path.{◌≡◌, refl, sym, ◌∙◌, ap}
use mathlib.Core.Logic.{◌≢◌, ◌⊎◌, inl, inr, ⊎_elim}
use mathlib.Core.Bool.{Bool, true, false, false≢true}
use mathlib.Core.List.Memᴰ
use mathlib.Core.List.{List, [], ◌∷◌, ◌++◌, reverse, reverse_aux, reverse_aux-eq, nil≢cons, head-eq_of_cons-eq, tail-eq_of_cons-eq}
use lib.ListN.{length, get_or, take, drop}
use lib.Seq.{sets, sets-eq, take-append_seam, length-take-le}
use lib.Dec.{eqb, leb}
use borrow.Author.Tests.{eqb-true, eq-eqb, leb-true, leb-false}
use Rattle.model.specs.Trace.{Trace, Valid, thread_of}
use Rattle.model.specs.Lists.{◌∈◌, up_to, before, numbers, cons_if, keep, nearest, any_in, listed, in_front, only, own, just}
use Rattle.model.specs.Race.{Increasing}
use Rattle.model.proofs.Tests.{by_cases, in_cons, clash, just-true, true-just}

-- ---- the members that pass a test

module _ (p : ℕ → Bool) where
  pub mem_keep : (k : ℕ) (l : List ℕ) → k ∈ keep p l → (k ∈ l) × (p k ≡ true)
  mem_keep k [] m = absurd (Memᴰ.not-nil m)
  mem_keep k (j ∷ l) m =
      let ih : k ∈ keep p l → (k ∈ j ∷ l) × (p k ≡ true) = λ n. (Memᴰ.tail (mem_keep k l n).0, (mem_keep k l n).1) in
      by_cases (p j) (λ e. in_cons (rw e at m) (λ q. (Memᴰ.head q, rw q e)) ih) (λ e. ih (rw e at m))

  tail_if : (k j : ℕ) (b : Bool) (l : List ℕ) → k ∈ l → k ∈ cons_if b j l
  tail_if k j true l m = Memᴰ.tail m
  tail_if k j false l m = m

  pub keep_mem : {k : ℕ} {l : List ℕ} → k ∈ l → p k ≡ true → k ∈ keep p l
  keep_mem {k} (Memᴰ.head {x = j} {xs = l} q) e = let f : p j ≡ true = rw (← q) e in rw f (Memᴰ.head q)
  keep_mem {k} (Memᴰ.tail {x = j} {xs = l} m) e = tail_if k j (p j) (keep p l) (keep_mem m e)

  pub any_mem : {k : ℕ} {l : List ℕ} → k ∈ l → p k ≡ true → any_in p l ≡ true
  any_mem {k} (Memᴰ.head {x = j} {xs = l} q) e = let f : p j ≡ true = rw (← q) e in rw f
  any_mem {k} (Memᴰ.tail {x = j} {xs = l} m) e = by_cases (p j) (λ f. rw f) (λ f. rw f (any_mem m e))

  pub mem_any : (l : List ℕ) → any_in p l ≡ true → (k : ℕ) × (k ∈ l) × (p k ≡ true)
  mem_any [] e = absurd (false≢true e)
  mem_any (j ∷ l) e =
      by_cases (p j) (λ f. (j, Memᴰ.head refl, f)) (λ f. let r = mem_any l (rw f at e) in (r.0, Memᴰ.tail r.1, r.2))

  pub nearest_mem : (l : List ℕ) → nearest p l ≢ 0 → nearest p l ∈ l
  nearest_mem [] ne = absurd (ne refl)
  nearest_mem (k ∷ l) ne = by_cases (p k) (λ e. rw e (Memᴰ.head refl)) (λ e. rw e (Memᴰ.tail (nearest_mem l (rw e at ne))))

  pub nearest_passes : (l : List ℕ) → nearest p l ≢ 0 → p (nearest p l) ≡ true
  nearest_passes [] ne = absurd (ne refl)
  nearest_passes (k ∷ l) ne = by_cases (p k) (λ e. rw e e) (λ e. rw e (nearest_passes l (rw e at ne)))

  -- of positive numbers, none passes exactly where there is no nearest
  pub nearest-none : (l : List ℕ) → ((k : ℕ) → k ∈ l → ¬ (p k ≡ true)) → nearest p l ≡ 0
  nearest-none [] f = refl
  nearest-none (k ∷ l) f =
      by_cases (p k) (λ e. absurd (f k (Memᴰ.head refl) e)) (λ e. rw e (nearest-none l (λ j m. f j (Memᴰ.tail m))))

  pub none-nearest : (l : List ℕ) → ((k : ℕ) → k ∈ l → 1 ≤ k) → nearest p l ≡ 0 → (k : ℕ) → k ∈ l → ¬ (p k ≡ true)
  none-nearest [] f z k m e = Memᴰ.not-nil m
  none-nearest (j ∷ l) f z k m e =
      by_cases (p j)
      (λ q. let j0 : j ≡ 0 = rw q at z in let y = f j (Memᴰ.head refl) in omega arith)
      (λ q. in_cons m (λ d. clash (rw d at e) q) (λ n. none-nearest l (λ i u. f i (Memᴰ.tail u)) (rw q at z) k n e))

  pub keep_reverse_aux : (l r : List ℕ) → keep p (reverse_aux l r) ≡ reverse_aux (keep p l) (keep p r)
  keep_reverse_aux [] r = refl
  keep_reverse_aux (x ∷ l) r =
      let ih = keep_reverse_aux l (x ∷ r) in by_cases (p x) (λ e. rw e (rw e at ih)) (λ e. rw e (rw e at ih))

  pub keep-reverse : (l : List ℕ) → keep p (reverse l) ≡ reverse (keep p l)
  keep-reverse l = keep_reverse_aux l []

  pub keep_append : (l r : List ℕ) → keep p (l ++ r) ≡ keep p l ++ keep p r
  keep_append [] r = refl
  keep_append (x ∷ l) r = let ih = keep_append l r in by_cases (p x) (λ e. rw e (ap (λ (z : List ℕ). x ∷ z) ih)) (λ e. rw e ih)

  -- what stands behind a member of the trace's events that pass
  pub behind : (n : ℕ) (xs : List ℕ) (k : ℕ) (ys : List ℕ) → xs ++ (k ∷ ys) ≡ keep p (up_to n) → ys ≡ keep p (before k)
  behind zero [] k ys e = absurd (nil≢cons (sym e))
  behind zero (x ∷ xs) k ys e = absurd (nil≢cons (sym e))
  behind (suc n) [] k ys e =
      by_cases (p (suc n))
      (λ q.
      let d : (k ∷ ys) ≡ (suc n ∷ keep p (up_to n)) = rw q at e in
      let r : k ≡ suc n = head-eq_of_cons-eq d in
      rw r (tail-eq_of_cons-eq d))
      (λ q. behind n [] k ys (rw q at e))
  behind (suc n) (x ∷ xs) k ys e =
      by_cases (p (suc n)) (λ q. behind n xs k ys (tail-eq_of_cons-eq (rw q at e))) (λ q. behind n (x ∷ xs) k ys (rw q at e))

-- two tests that agree on the members
pub keep_same : (p q : ℕ → Bool) (l : List ℕ) → ((k : ℕ) → k ∈ l → p k ≡ q k) → keep p l ≡ keep q l
keep_same p q [] f = refl
keep_same p q (k ∷ l) f = rw (f k (Memᴰ.head refl)) (ap (cons_if (q k) k) (keep_same p q l (λ j m. f j (Memᴰ.tail m))))

-- a wider test first changes nothing
pub keep-keep : (p q : ℕ → Bool) (l : List ℕ) → ((k : ℕ) → k ∈ l → p k ≡ true → q k ≡ true) → keep p (keep q l) ≡ keep p l
keep-keep p q [] f = refl
keep-keep p q (k ∷ l) f =
    let ih = keep-keep p q l (λ j m. f j (Memᴰ.tail m)) in
    by_cases (q k)
    (λ e. rw e (ap (cons_if (p k) k) ih))
    (λ e. by_cases (p k) (λ d. clash (f k (Memᴰ.head refl) d) e) (λ d. rw (e, d) ih))

-- where some members are left out, the nearest stays if it is kept, and so does that there is none
pub nearest-kept : (p q : ℕ → Bool) → p 0 ≡ false → (l : List ℕ) (o : ℕ) → nearest p l ≡ o → (o ≡ 0) ⊎ (q o ≡ true) → nearest p (keep q l) ≡ o
nearest-kept p q z [] o e c = e
nearest-kept p q z (k ∷ l) o e c =
    by_cases (p k)
    (λ d.
    let ko : k ≡ o = rw d at e in
    let f : q k ≡ true = ⊎_elim (λ o0. let k0 : k ≡ 0 = ko ∙ o0 in clash (rw k0 at d) z) (λ f. rw ko f) c in
    rw (f, d) ko)
    (λ d. let ih = nearest-kept p q z l o (rw d at e) c in by_cases (q k) (λ f. rw (f, d) ih) (λ f. rw f ih))

pub mem_listed : {k : ℕ} {l : List ℕ} → k ∈ l → listed k l ≡ true
unfolding listed
mem_listed {k} m = any_mem (λ j. eqb k j) m (eq-eqb k k refl)

pub listed_mem : (k : ℕ) (l : List ℕ) → listed k l ≡ true → k ∈ l
unfolding listed
listed_mem k l e =
    let r = mem_any (λ j. eqb k j) l e in
    let q : k ≡ r.0 = eqb-true k r.0 r.2 in
    rw q r.1

-- the member at a place
pub get_d_mem : (l : List ℕ) (i : ℕ) → i < length l → get_or l i 0 ∈ l
get_d_mem [] i p = absurd (omega arith)
get_d_mem (x ∷ l) zero p = Memᴰ.head refl
get_d_mem (x ∷ l) (suc i) p = Memᴰ.tail (get_d_mem l i (omega arith))

-- the place of a member
pub mem_place : {k : ℕ} {l : List ℕ} → k ∈ l → (n : ℕ) × (n < length l) × (get_or l n 0 ≡ k)
mem_place (Memᴰ.head e) = (0, omega arith, sym e)
mem_place (Memᴰ.tail m) = let x = mem_place m in (suc x.0, (let h = x.1 in omega arith), x.2)

-- ---- the events of a set of threads

module _ (t : Trace) (s : ℕ → Bool) where
  pub mem_only : (k : ℕ) (h : List ℕ) → k ∈ only t s h → (k ∈ h) × (s (thread_of t k) ≡ true)
  mem_only k h m = mem_keep (λ j. s (thread_of t j)) k h m

  pub only_mem : {k : ℕ} {h : List ℕ} → k ∈ h → s (thread_of t k) ≡ true → k ∈ only t s h
  only_mem m e = keep_mem (λ j. s (thread_of t j)) m e

  pub own-only : (c : ℕ) → s c ≡ true → (h : List ℕ) → own t c (only t s h) ≡ own t c h
  own-only c e h = keep-keep (λ j. just c (thread_of t j)) (λ j. s (thread_of t j)) h (λ j m q. rw (just-true c (thread_of t j) q) e)

module _ (t : Trace) (c : ℕ) where
  pub mem_own : (k : ℕ) (h : List ℕ) → k ∈ own t c h → (k ∈ h) × (thread_of t k ≡ c)
  mem_own k h m = let x = mem_only t (just c) k h m in (x.0, just-true c (thread_of t k) x.1)

  pub own_mem : {k : ℕ} {h : List ℕ} → k ∈ h → thread_of t k ≡ c → k ∈ own t c h
  own_mem {k} m e = only_mem t (just c) m (true-just c (thread_of t k) e)

-- ---- a list read backwards

mem_reverse_aux : (k : ℕ) (l r : List ℕ) → k ∈ reverse_aux l r → (k ∈ l) ⊎ (k ∈ r)
mem_reverse_aux k [] r m = inr m
mem_reverse_aux k (x ∷ l) r m =
    ⊎_elim (λ n. inl (Memᴰ.tail n)) (λ n. in_cons n (λ e. inl (Memᴰ.head e)) (λ u. inr u)) (mem_reverse_aux k l (x ∷ r) m)

reverse_aux_right : (k : ℕ) (l r : List ℕ) → k ∈ r → k ∈ reverse_aux l r
reverse_aux_right k [] r m = m
reverse_aux_right k (x ∷ l) r m = reverse_aux_right k l (x ∷ r) (Memᴰ.tail m)

reverse_aux_left : {k : ℕ} {l : List ℕ} (r : List ℕ) → k ∈ l → k ∈ reverse_aux l r
reverse_aux_left {k} r (Memᴰ.head {x = x} {xs = l} e) = reverse_aux_right k l (x ∷ r) (Memᴰ.head e)
reverse_aux_left r (Memᴰ.tail {x = x} {xs = l} m) = reverse_aux_left (x ∷ r) m

pub mem_reverse : (k : ℕ) (l : List ℕ) → k ∈ reverse l → k ∈ l
mem_reverse k l m = ⊎_elim (λ n. n) (λ n. absurd (Memᴰ.not-nil n)) (mem_reverse_aux k l [] m)

pub reverse_mem : {k : ℕ} {l : List ℕ} → k ∈ l → k ∈ reverse l
reverse_mem m = reverse_aux_left [] m

pub reverse_split : (σ : List ℕ) (k : ℕ) (τ : List ℕ) → reverse (σ ++ (k ∷ τ)) ≡ reverse τ ++ (k ∷ reverse σ)
reverse_split σ k τ = go σ []
  where
    go : (σ r : List ℕ) → reverse_aux (σ ++ (k ∷ τ)) r ≡ reverse τ ++ (k ∷ reverse_aux σ r)
    go [] r = reverse_aux-eq τ (k ∷ r)
    go (x ∷ σ) r = go σ (x ∷ r)

-- ---- the trace's own lists

pub mem_up_to : (m k : ℕ) → k ∈ up_to m → (1 ≤ k) × (k ≤ m)
mem_up_to zero k m = absurd (Memᴰ.not-nil m)
mem_up_to (suc n) k m = in_cons m (λ e. omega arith) (λ x. let y = mem_up_to n k x in omega arith)

pub up_to_mem : (m k : ℕ) → 1 ≤ k → k ≤ m → k ∈ up_to m
up_to_mem zero k p q = absurd (omega arith)
up_to_mem (suc n) k p q =
    by_cases (leb k n)
    (λ e. Memᴰ.tail (up_to_mem n k p (leb-true k n e)))
    (λ e. Memᴰ.head (let z = leb-false k n e in omega arith))

pub mem_before : (m k : ℕ) → k ∈ before m → (1 ≤ k) × (k < m)
mem_before zero k x = absurd (Memᴰ.not-nil x)
mem_before (suc m) k x = let y = mem_up_to m k x in omega arith

pub before_mem : (m k : ℕ) → 1 ≤ k → k < m → k ∈ before m
before_mem zero k p q = absurd (omega arith)
before_mem (suc m) k p q = up_to_mem m k p (omega arith)

pub mem_numbers : (t : Trace) (k : ℕ) → k ∈ numbers t → Valid t k
mem_numbers t k m = let y = mem_up_to (length t) k (mem_reverse k (up_to (length t)) m) in record { positive = y.0; bounded = y.1 }

pub numbers_mem : (t : Trace) (k : ℕ) → Valid t k → k ∈ numbers t
numbers_mem t k v = reverse_mem (up_to_mem (length t) k v.positive v.bounded)

-- the d numbers after k
abbrev pub after : ℕ → ℕ → List ℕ
after k zero = []
after k (suc d) = suc k ∷ after (suc k) d

pub numbers_split : (t : Trace) (d k : ℕ) → k + d ≡ length t → numbers t ≡ reverse_aux (up_to k) (after k d)
numbers_split t zero k e = let z : length t ≡ k = omega arith in rw z
numbers_split t (suc d) k e = numbers_split t d (suc k) (omega arith)

-- where none up to k passes the test, those after k decide
pub nearest_skip : (p : ℕ → Bool) (k : ℕ) (r : List ℕ) → ((j : ℕ) → j ≤ k → p j ≡ false) → nearest p (reverse_aux (up_to k) r) ≡ nearest p r
nearest_skip p zero r f = refl
nearest_skip p (suc k) r f = nearest_skip p k (suc k ∷ r) (λ j l. f j (omega arith)) ∙ rw (f (suc k) (omega arith))

-- ---- lists in order

abbrev Decreasing : List ℕ → Type 0
Decreasing [] = Unit {0}
Decreasing (x ∷ l) = ((y : ℕ) → y ∈ l → y < x) × Decreasing l

decreasing_reverse : (l r : List ℕ) → Decreasing l → Increasing r → ((x y : ℕ) → x ∈ l → y ∈ r → x < y) → Increasing (reverse_aux l r)
decreasing_reverse [] r d i f = i
decreasing_reverse (x ∷ l) r d i f =
    decreasing_reverse l (x ∷ r) d.1 ((λ y m. f x y (Memᴰ.head refl) m), i)
    (λ u v m n. in_cons n (λ e. rw e (d.0 u m)) (λ y. f u v (Memᴰ.tail m) y))

decreasing_keep : (p : ℕ → Bool) (n : ℕ) → Decreasing (keep p (up_to n))
decreasing_keep p zero = tt
decreasing_keep p (suc n) =
    let ih = decreasing_keep p n in
    by_cases (p (suc n)) (λ e. rw e ((λ y m. let z = mem_up_to n y (mem_keep p y (up_to n) m).0 in omega arith), ih)) (λ e. rw e ih)

-- the trace's events that pass a test are in the trace's order
pub increasing_reverse : (p : ℕ → Bool) (n : ℕ) → Increasing (reverse (keep p (up_to n)))
increasing_reverse p n = decreasing_reverse (keep p (up_to n)) [] (decreasing_keep p n) tt (λ x y m z. absurd (Memᴰ.not-nil z))

keep-true : (l : List ℕ) → keep (λ k. true) l ≡ l
keep-true [] = refl
keep-true (k ∷ l) = ap (λ (r : List ℕ). k ∷ r) (keep-true l)

pub increasing_numbers : (t : Trace) → Increasing (numbers t)
increasing_numbers t = rw (keep-true (up_to (length t))) at (increasing_reverse (λ k. true) (length t))

pub increasing_keep : (p : ℕ → Bool) (l : List ℕ) → Increasing l → Increasing (keep p l)
increasing_keep p [] i = tt
increasing_keep p (x ∷ l) i =
    let ih = increasing_keep p l i.1 in by_cases (p x) (λ e. rw e ((λ y m. i.0 y (mem_keep p y l m).0), ih)) (λ e. rw e ih)

-- such a list is given by its members
pub increasing_unique : (l r : List ℕ) → Increasing l → Increasing r → ((k : ℕ) → k ∈ l → k ∈ r) → ((k : ℕ) → k ∈ r → k ∈ l) → l ≡ r
increasing_unique [] [] i j f g = refl
increasing_unique [] (y ∷ r) i j f g = absurd (Memᴰ.not-nil (g y (Memᴰ.head refl)))
increasing_unique (x ∷ l) [] i j f g = absurd (Memᴰ.not-nil (f x (Memᴰ.head refl)))
increasing_unique (x ∷ l) (y ∷ r) i j f g =
    let e : x ≡ y =
    in_cons (f x (Memᴰ.head refl)) (λ q. q) (λ m.
    in_cons (g y (Memᴰ.head refl)) (λ q. sym q) (λ n. let p = j.0 x m in let q = i.0 y n in absurd (omega arith))) in
    rw e (ap (λ (z : List ℕ). y ∷ z) (increasing_unique l r i.1 j.1
    (λ k m. in_cons (f k (Memᴰ.tail m)) (λ q. let p = i.0 k m in absurd (omega arith)) (λ n. n))
    (λ k m. in_cons (g k (Memᴰ.tail m)) (λ q. let p = j.0 k m in absurd (omega arith)) (λ n. n))))

-- ---- the front of a list, and a list in front of another

pub front_length : (n : ℕ) (l : List ℕ) → n ≤ length l → n ≡ length (take n l)
front_length n l h = sym (length-take-le n l h)

pub front_taken : (ρ list : List ℕ) → take (length ρ) (in_front ρ list) ≡ ρ
unfolding in_front
front_taken ρ list = take-append_seam ρ (drop (length ρ) list)

pub sets_front : (ρ list : List ℕ) → length ρ ≤ length list → sets list 0 ρ ≡ in_front ρ list
unfolding in_front
sets_front ρ list h = sets-eq ρ list 0 (omega arith) ∙ rw (zero-add (length ρ))
