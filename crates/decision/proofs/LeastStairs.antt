-- The least staircase: it has what must stand before, and it is no higher than any other that has.
use Prim.Native.Nat.{ℕ, zero, suc, ◌+◌, ◌*◌, ◌≤◌, ◌<◌}
use native.Mathlib.Omega.{arith}
use mathlib.Core.Path.{◌≡◌, refl, sym, ◌∙◌, ap, ap₂}
use mathlib.Core.Logic.{◌⊎◌, inl, inr, ⊎_elim}
use mathlib.Core.Bool.{true, ◌&&◌}
use mathlib.Core.List.Memᴰ
use mathlib.Core.List.{List, [], ◌∷◌, map, reverse}
use lib.ListN.{length}
use lib.Dec.{eqb, leb, ltb}
use borrow.Author.Tests.{eqb-true, eqb-false, leb-true, le-leb}
use Rattle.model.specs.Trace.{Trace}
use Rattle.model.specs.Lists.{◌∈◌, nearest}
use Rattle.model.specs.Race.{Increasing}
use Rattle.decision.specs.Check.{same_list}
use Rattle.decision.specs.Stairs.{is_bound, is_alike, is_within, is_kept_apart, is_rising, is_forced, stair_in, raised, settled, least_stairs, climb}
use Rattle.model.proofs.Tests.{by_cases, in_cons, clash, both, true_both, either_true, true-either}
use Rattle.model.proofs.Lists.{any_mem, mem_any, nearest_mem, nearest_passes, mem_reverse, reverse_mem}
use Rattle.decision.proofs.CheckExact.{same-eq, same_refl}
use Rattle.decision.proofs.InOrder.{reverse_down, nearest_top}

-- ---- lists of stairs

stair-map : (f : ℕ → ℕ) (Q : List ℕ) (q : ℕ) → q ∈ Q → stair_in Q (map f Q) q ≡ f q
stair-map f [] q n = absurd (Memᴰ.not-nil n)
stair-map f (k ∷ Q) q n =
    by_cases (eqb k q)
    (λ e. rw e (ap f (eqb-true k q e)))
    (λ e. rw e (stair-map f Q q (in_cons n (λ z. absurd (eqb-false k q e (sym z))) (λ i. i))))

stair-none : (Q : List ℕ) (q : ℕ) → stair_in Q [] q ≡ 0
stair-none [] q = refl
stair-none (k ∷ Q) q = refl

abbrev total : List ℕ → ℕ
total [] = 0
total (x ∷ l) = x + total l

-- where no stair falls they are the same, or their total grows
total_grows : (f g : ℕ → ℕ) (Q : List ℕ) → ((q : ℕ) → q ∈ Q → f q ≤ g q) → (map f Q ≡ map g Q) ⊎ (total (map f Q) < total (map g Q))
total_grows f g [] le = inl refl
total_grows f g (q ∷ Q) le =
    let z = le q (Memᴰ.head refl) in
    ⊎_elim
    (λ e.
    let s : total (map f Q) ≡ total (map g Q) = ap total e in
    by_cases (eqb (f q) (g q))
    (λ d. inl (ap₂ (λ (x : ℕ) (l : List ℕ). x ∷ l) (eqb-true _ _ d) e))
    (λ d. let ne = eqb-false (f q) (g q) d in inr (omega arith)))
    (λ l. inr (omega arith))
    (total_grows f g Q (λ k n. le k (Memᴰ.tail n)))

total_bounded : (f : ℕ → ℕ) (n : ℕ) (Q : List ℕ) → ((q : ℕ) → f q ≤ n) → total (map f Q) ≤ length Q * n
total_bounded f n [] le = omega arith
total_bounded f n (q ∷ Q) le = let ih = total_bounded f n Q le in let z = le q in omega arith

-- ---- a higher staircase forces more

module _ (t : Trace) (P Q : List ℕ) where
  -- no higher on Q
  abbrev Under : (ℕ → ℕ) → (ℕ → ℕ) → Type 0
  Under g h = (q : ℕ) → q ∈ Q → g q ≤ h q

  apart_more : (g h : ℕ → ℕ) → Under g h → (p q : ℕ) → is_kept_apart t P Q g p q ≡ true → is_kept_apart t P Q h p q ≡ true
  unfolding is_kept_apart
  apart_more g h le p q e =
      let x = mem_any _ P e in
      let y = both (is_alike t x.0 q && is_within t x.0 p) _ x.2 in
      let z = mem_any _ Q y.1 in
      let u = both (is_within t q z.0) (leb x.0 (g z.0)) z.2 in
      let a = leb-true x.0 (g z.0) u.1 in
      let b = le z.0 z.1 in
      any_mem _ x.1 (true_both y.0 (any_mem _ z.1 (true_both u.0 (le-leb x.0 (h z.0) (omega arith)))))

  rising_more : (g h : ℕ → ℕ) → Under g h → (p q : ℕ) → is_rising Q g p q ≡ true → is_rising Q h p q ≡ true
  unfolding is_rising
  rising_more g h le p q e =
      let z = mem_any _ Q e in
      let u = both (ltb z.0 q) (leb p (g z.0)) z.2 in
      let a = leb-true p (g z.0) u.1 in
      let b = le z.0 z.1 in
      any_mem _ z.1 (true_both u.0 (le-leb p (h z.0) (omega arith)))

  forced_more : (g h : ℕ → ℕ) → Under g h → (p q : ℕ) → is_forced t P Q g p q ≡ true → is_forced t P Q h p q ≡ true
  unfolding is_forced
  forced_more g h le p q e =
      true-either (is_bound t P Q p q) _ (⊎_elim
      (λ b. inl b)
      (λ b. inr (true-either (is_kept_apart t P Q h p q) _ (⊎_elim (λ a. inl (apart_more g h le p q a)) (λ a. inr (rising_more g h le p q a)) (either_true (is_kept_apart t P Q g p q) _ b))))
      (either_true (is_bound t P Q p q) _ e))

  -- ---- a round

  -- what a round makes of the stair of event q
  abbrev stair : List ℕ → ℕ → ℕ
  stair l q = nearest (λ p. is_forced t P Q (stair_in Q l) p q) (reverse P)

  raised-stair : (l : List ℕ) (q : ℕ) → q ∈ Q → stair_in Q (raised t P Q l) q ≡ stair l q
  unfolding raised
  raised-stair l q n = stair-map (stair l) Q q n

  -- it is an event of P that must stand before q, or 0
  stair_known : (l : List ℕ) (q : ℕ) → (stair l q ≡ 0) ⊎ ((stair l q ∈ P) × (is_forced t P Q (stair_in Q l) (stair l q) q ≡ true))
  stair_known l q =
      by_cases (eqb (stair l q) 0)
      (λ e. inl (eqb-true _ _ e))
      (λ e.
      let ne = eqb-false (stair l q) 0 e in
      inr (mem_reverse _ P (nearest_mem _ (reverse P) ne), nearest_passes (λ p. is_forced t P Q (stair_in Q l) p q) (reverse P) ne))

  module _ (i : Increasing P) (bounded : (p : ℕ) → p ∈ P → p ≤ length t) where
    -- and the last of these
    stair_last : (l : List ℕ) (p q : ℕ) → p ∈ P → is_forced t P Q (stair_in Q l) p q ≡ true → p ≤ stair l q
    stair_last l p q n e =
        ⊎_elim
        (λ d. let z : p ≡ stair l q = d in omega arith)
        (λ d. let z : p < stair l q = d in omega arith)
        (nearest_top (λ j k. j < k) (λ p. is_forced t P Q (stair_in Q l) p q) (reverse P) (reverse_down (λ j k. j < k) P i) p (reverse_mem n) e)

    -- higher stairs are raised higher
    stair_more : (l r : List ℕ) → Under (stair_in Q l) (stair_in Q r) → (q : ℕ) → stair l q ≤ stair r q
    stair_more l r le q =
        ⊎_elim
        (λ z. let y : stair l q ≡ 0 = z in omega arith)
        (λ z. stair_last r (stair l q) q z.0 (forced_more (stair_in Q l) (stair_in Q r) le (stair l q) q z.1))
        (stair_known l q)

    stair_bounded : (l : List ℕ) (q : ℕ) → stair l q ≤ length t
    stair_bounded l q = ⊎_elim (λ z. let y : stair l q ≡ 0 = z in omega arith) (λ z. bounded (stair l q) z.0) (stair_known l q)

    -- ---- the rounds come to an end

    -- a round changes nothing
    abbrev Fixed : List ℕ → Type 0
    Fixed l = raised t P Q l ≡ l

    -- no stair falls in a round
    abbrev Grows : List ℕ → Type 0
    Grows l = Under (stair_in Q l) (stair_in Q (raised t P Q l))

    raised_grows : (l : List ℕ) → Grows l → Grows (raised t P Q l)
    raised_grows l g q n =
        let a = raised-stair l q n in
        let b = raised-stair (raised t P Q l) q n in
        let c = stair_more l (raised t P Q l) g q in
        omega arith

    -- a round changes nothing, or the total grows
    round_grows : (l : List ℕ) → Grows l → (raised t P Q (raised t P Q l) ≡ raised t P Q l) ⊎ (total (raised t P Q l) < total (raised t P Q (raised t P Q l)))
    unfolding raised
    round_grows l g = ⊎_elim (λ e. inl (sym e)) (λ n. inr n) (total_grows (stair l) (stair (raised t P Q l)) Q (λ q n. stair_more l (raised t P Q l) g q))

    raised_bounded : (l : List ℕ) → total (raised t P Q l) ≤ length Q * length t
    unfolding raised
    raised_bounded l = total_bounded (stair l) (length t) Q (stair_bounded l)

    settled_fixed : (f : ℕ) (l : List ℕ) → Grows l → length Q * length t ≤ total (raised t P Q l) + f → Fixed (settled t P Q f (raised t P Q l))
    unfolding settled
    settled_fixed zero l g b = let z = raised_bounded (raised t P Q l) in ⊎_elim (λ e. e) (λ n. absurd (omega arith)) (round_grows l g)
    settled_fixed (suc f) l g b =
        let r = raised t P Q l in
        by_cases (same_list (raised t P Q r) r)
        (λ e. rw (e, settled) (same-eq _ _ e))
        (λ e.
        rw (e, settled) (settled_fixed f r (raised_grows l g) (⊎_elim
        (λ d. let z : same_list (raised t P Q r) r ≡ true = rw d (same_refl r) in clash z e)
        (λ n. omega arith)
        (round_grows l g))))

    least_fixed : Fixed (least_stairs t P Q)
    unfolding least_stairs settled
    least_fixed =
        by_cases (same_list (raised t P Q []) [])
        (λ e. rw (e, settled) (same-eq _ _ e))
        (λ e. rw (e, settled) (settled_fixed (length Q * length t) [] (λ q n. let z = stair-none Q q in omega arith) (omega arith)))

    -- ---- the least staircase

    least-stair : (q : ℕ) → q ∈ Q → stair_in Q (least_stairs t P Q) q ≡ stair (least_stairs t P Q) q
    least-stair q n = ap (λ (l : List ℕ). stair_in Q l q) (sym least_fixed) ∙ raised-stair (least_stairs t P Q) q n

    -- each stair is 0 or an event of P
    pub least_known : (q : ℕ) → q ∈ Q → (stair_in Q (least_stairs t P Q) q ≡ 0) ⊎ (stair_in Q (least_stairs t P Q) q ∈ P)
    least_known q n = rw (least-stair q n) (⊎_elim (λ z. inl z) (λ z. inr z.0) (stair_known (least_stairs t P Q) q))

    -- what must stand before does
    pub least_closed : (p q : ℕ) → p ∈ P → q ∈ Q → is_forced t P Q (stair_in Q (least_stairs t P Q)) p q ≡ true → p ≤ stair_in Q (least_stairs t P Q) q
    least_closed p q x y e = rw (least-stair q y) (stair_last (least_stairs t P Q) p q x e)

    -- no other where it does is lower
    pub least_below : (h : ℕ → ℕ) → ((p q : ℕ) → p ∈ P → q ∈ Q → is_forced t P Q h p q ≡ true → p ≤ h q) → (q : ℕ) → q ∈ Q → stair_in Q (least_stairs t P Q) q ≤ h q
    unfolding least_stairs settled
    least_below h c = settled_below (suc (length Q * length t)) [] (λ q n. let z = stair-none Q q in omega arith)
      where
        raised_below : (l : List ℕ) → Under (stair_in Q l) h → Under (stair_in Q (raised t P Q l)) h
        raised_below l le q n =
            rw (raised-stair l q n) (⊎_elim
            (λ z. let y : stair l q ≡ 0 = z in omega arith)
            (λ z. c (stair l q) q z.0 n (forced_more (stair_in Q l) h le (stair l q) q z.1))
            (stair_known l q))

        settled_below : (f : ℕ) (l : List ℕ) → Under (stair_in Q l) h → Under (stair_in Q (settled t P Q f l)) h
        settled_below zero l le = le
        settled_below (suc f) l le = by_cases (same_list (raised t P Q l) l) (λ e. rw (e, settled) le) (λ e. rw (e, settled) (settled_below f (raised t P Q l) (raised_below l le)))

-- ---- the merge asks only for the stairs of Q

pub climb-same : (g h : ℕ → ℕ) (P Q : List ℕ) → ((q : ℕ) → q ∈ Q → g q ≡ h q) → climb g P Q ≡ climb h P Q
unfolding climb
climb-same g h [] Q e = refl
climb-same g h (p ∷ P) [] e = refl
climb-same g h (p ∷ P) (q ∷ Q) e =
    let d = e q (Memᴰ.head refl) in
    by_cases (leb p (h q))
    (λ b. rw (d, b, climb) (ap (λ (l : List ℕ). p ∷ l) (climb-same g h P (q ∷ Q) e)))
    (λ b. rw (d, b, climb) (ap (λ (l : List ℕ). q ∷ l) (climb-same g h (p ∷ P) Q (λ k n. e k (Memᴰ.tail n)))))
