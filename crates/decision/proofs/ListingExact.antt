-- The verdict on a pair, the listing, and the first race after two given numbers, as computed, are what they should be.
use Prim.Native.Nat.{ℕ, ◌<◌}
use mathlib.Core.Path.{◌≡◌, refl, sym, ◌∙◌, ap}
use mathlib.Core.Logic.{inl, inr, ⊎_elim, ◌↔◌}
use mathlib.Core.Bool.{true, not}
use mathlib.Core.Option.{Option, none, some}
use mathlib.Core.List.Memᴰ
use mathlib.Core.List.{List, [], ◌∷◌, ◌++◌, Memᴰ}
use lib.Dec.{eqb, ltb}
use borrow.Author.Tests.{eqb-true, eqb-false, eq-eqb, ne_eqb, ltb-true, lt-ltb, not-true}
use Rattle.model.specs.Trace.{Trace, read, write, thread_of, kind_of, object_of}
use Rattle.model.specs.Lists.{numbers, pair, Ordered}
use Rattle.model.specs.Good.{WellFormed}
use Rattle.model.specs.Race.{Access, Conflicting, Reported, Witness}
use Rattle.decision.specs.Check.{is_valid}
use Rattle.model.specs.Listing.{Race, RaceOf, pair_of, After, Sorted, Listing, FirstAfter}
use Rattle.decision.specs.Decision.{witness, is_access, is_conflicting, race_with, each, pair_on, conflicting_pairs, races, next_race}
use Rattle.model.proofs.Tests.{by_cases, both, either_true, true-either}
use Rattle.model.proofs.Lists.{numbers_mem, increasing_numbers}
use Rattle.model.proofs.Threads.{conflicting_apart}
use Rattle.decision.proofs.OrderExact.{first-after_exactly, none-after_exactly}
use Rattle.decision.proofs.CheckExact.{valid_true, true_valid}
use Rattle.decision.proofs.ShownExact.{shown_exactly, shown-none}

-- ---- the verdict on a conflicting pair

module _ (t : Trace) (w : WellFormed t) (a b : ℕ) (c : Conflicting t a b) where
  pub witness_exactly : (ρ : List ℕ) → (witness t a b ≡ some ρ) ↔ Witness t a b ρ
  witness_exactly ρ = shown_exactly t (pair a b) (thread_of t a) (conflicting_apart t a b c).valid w ρ

  pub reported-answered : Reported t a b ↔ ((ρ : List ℕ) × (witness t a b ≡ some ρ))
  reported-answered = ((λ r. go r (witness t a b) refl), (λ x. (x.0, ((witness_exactly x.0).0 x.1).candidate)))
    where
      go : Reported t a b → (o : Option (List ℕ)) → witness t a b ≡ o → (ρ : List ℕ) × (witness t a b ≡ some ρ)
      go r none e = absurd ((shown-none t (pair a b) (thread_of t a) (conflicting_apart t a b c).valid w).0 e r.0 r.1)
      go r (some ρ) e = (ρ, e)

  -- a pair is reported exactly when it has a witness
  pub reported-shown : Reported t a b ↔ ((ρ : List ℕ) × Witness t a b ρ)
  reported-shown = ((λ r. let x = reported-answered.0 r in (x.0, (witness_exactly x.0).0 x.1)), (λ x. (x.0, x.1.candidate)))

-- ---- the test of a conflicting pair

module _ (t : Trace) where
  access_true : (k : ℕ) → is_access t k ≡ true → Access t k
  unfolding is_access
  access_true k e = ⊎_elim (λ p. inl (eqb-true _ _ p)) (λ p. inr (eqb-true _ _ p)) (either_true (eqb (kind_of t k) read) (eqb (kind_of t k) write) e)

  true_access : (k : ℕ) → Access t k → is_access t k ≡ true
  unfolding is_access
  true_access k c = true-either (eqb (kind_of t k) read) (eqb (kind_of t k) write) (⊎_elim (λ e. inl (eq-eqb _ _ e)) (λ e. inr (eq-eqb _ _ e)) c)

  pub conflicting_exactly : (a b : ℕ) → (is_conflicting t a b ≡ true) ↔ Conflicting t a b
  unfolding is_conflicting
  conflicting_exactly a b = (
    (λ e.
        let p = both (is_valid t a) _ e in
        let q = both (is_valid t b) _ p.1 in
        let r = both (ltb a b) _ q.1 in
        let s = both (not (eqb (thread_of t a) (thread_of t b))) _ r.1 in
        let x = both (is_access t a) _ s.1 in
        let y = both (is_access t b) _ x.1 in
        let u = both (eqb (object_of t a) (object_of t b)) _ y.1 in
        record {
          first = valid_true t a p.0;
          second = valid_true t b q.0;
          threads = eqb-false _ _ (not-true _ s.0);
          lower = ltb-true a b r.0;
          accesses = (access_true a x.0, access_true b y.0);
          cell = eqb-true _ _ u.0;
          a_write = ⊎_elim (λ z. inl (eqb-true _ _ z)) (λ z. inr (eqb-true _ _ z)) (either_true (eqb (kind_of t a) write) (eqb (kind_of t b) write) u.1);
        }),
    (λ c.
        rw (
          true_valid t a c.first,
          true_valid t b c.second,
          lt-ltb a b c.lower,
          ne_eqb _ _ c.threads,
          true_access a c.accesses.0,
          true_access b c.accesses.1,
          eq-eqb _ _ c.cell,
        )
        (true-either (eqb (kind_of t a) write) (eqb (kind_of t b) write) (⊎_elim (λ e. inl (eq-eqb _ _ e)) (λ e. inr (eq-eqb _ _ e)) c.a_write))),
  )

-- ---- lists joined

module _ {A B : Type 0} (f : A → List B) where
  mem_each : (x : B) (l : List A) → Memᴰ x (each f l) → (k : A) × Memᴰ k l × Memᴰ x (f k)
  mem_each x [] m = absurd (Memᴰ.not-nil m)
  mem_each x (k ∷ l) m =
      ⊎_elim (λ n. (k, Memᴰ.head refl, n)) (λ n. let r = mem_each x l n in (r.0, Memᴰ.tail r.1, r.2)) (Memᴰ.append_cases (f k) m)

  each_mem : (x : B) {k : A} {l : List A} → Memᴰ k l → Memᴰ x (f k) → Memᴰ x (each f l)
  each_mem x {k} (Memᴰ.head {x = j} {xs = l} e) n = let q : Memᴰ x (f j) = rw (← e) n in Memᴰ.append_left (each f l) q
  each_mem x {k} (Memᴰ.tail {x = j} {xs = l} m) n = Memᴰ.append_right (f j) (each_mem x m n)

  -- where R orders the members of each list, and those of an earlier list before those of a later one, it orders the whole
  module _ (R : B → B → Type 0) (S : A → A → Type 0) (s : (k : A) → Ordered R (f k)) (g : (j k : A) (x y : B) → S j k → Memᴰ x (f j) → Memᴰ y (f k) → R x y) where
    append_ordered : (l r : List B) → Ordered R l → Ordered R r → ((x y : B) → Memᴰ x l → Memᴰ y r → R x y) → Ordered R (l ++ r)
    append_ordered [] r o u h = u
    append_ordered (x ∷ l) r o u h = (
      (λ y m. ⊎_elim (λ n. o.0 y n) (λ n. h x y (Memᴰ.head refl) n) (Memᴰ.append_cases l m)),
      append_ordered l r o.1 u (λ z y m n. h z y (Memᴰ.tail m) n),
    )

    each_ordered : (l : List A) → Ordered S l → Ordered R (each f l)
    each_ordered [] i = tt
    each_ordered (k ∷ l) i =
        append_ordered (f k) (each f l) (s k) (each_ordered l i.1) (λ x y m n. let r = mem_each y l n in g k r.0 x y (i.0 r.0 r.1) m r.2)

-- ---- the conflicting pairs

-- by lower event, then by higher
abbrev Before : ℕ × ℕ → ℕ × ℕ → Type 0
Before p q = After (pair p.0 p.1) (pair q.0 q.1)

module _ (t : Trace) where
  on_pair_lem : (a b : ℕ) (p : ℕ × ℕ) → Memᴰ p (pair_on t a b) → (p.0 ≡ a) × (p.1 ≡ b) × Conflicting t a b
  on_pair_lem a b p m =
      by_cases (is_conflicting t a b)
      (λ e. let q = Memᴰ.eq_of_singleton (rw e at m) in (ap (λ (x : ℕ × ℕ). x.0) q, ap (λ (x : ℕ × ℕ). x.1) q, (conflicting_exactly t a b).0 e))
      (λ e. absurd (Memᴰ.not-nil (rw e at m)))

  row : ℕ → List (ℕ × ℕ)
  row a = each (λ b. pair_on t a b) (numbers t)

  mem_row : (a : ℕ) (p : ℕ × ℕ) → Memᴰ p (row a) → (p.0 ≡ a) × Conflicting t p.0 p.1
  unfolding row
  mem_row a p m =
      let r = mem_each (λ b. pair_on t a b) p (numbers t) m in
      let q = on_pair_lem a r.0 p r.2 in (q.0, rw (q.0, q.1) q.2)

  pairs_exactly : (p : ℕ × ℕ) → Memᴰ p (conflicting_pairs t) ↔ Conflicting t p.0 p.1
  unfolding conflicting_pairs row
  pairs_exactly p = (
    (λ m. let r = mem_each row p (numbers t) m in (mem_row r.0 p r.2).1),
    (λ c.
        each_mem row p (numbers_mem t p.0 c.first) (each_mem (λ b. pair_on t p.0 b) p (numbers_mem t p.1 c.second)
        (rw ((conflicting_exactly t p.0 p.1).1 c) (Memᴰ.head refl)))),
  )

  pairs_sorted : Ordered Before (conflicting_pairs t)
  unfolding conflicting_pairs row
  pairs_sorted =
      each_ordered row Before (λ j k. j < k)
      (λ a.
      each_ordered (λ b. pair_on t a b) Before (λ j k. j < k)
      (λ b. by_cases (is_conflicting t a b) (λ e. rw e ((λ y m. absurd (Memᴰ.not-nil m)), tt)) (λ e. rw e tt))
      (λ j k x y l m n. let p = on_pair_lem a j x m in let q = on_pair_lem a k y n in inr (p.0 ∙ sym q.0, inl (rw (p.1, q.1) l)))
      (numbers t) (increasing_numbers t))
      (λ j k x y l m n. let p = mem_row j x m in let q = mem_row k y n in inl (rw (p.0, q.0) l))
      (numbers t) (increasing_numbers t)

  -- ---- the listing

  on_pair : ℕ × ℕ → List Race
  on_pair p = race_with p.0 p.1 (witness t p.0 p.1)

  on_race : (p : ℕ × ℕ) (x : Race) → Memᴰ x (on_pair p) → (x.lower ≡ p.0) × (x.higher ≡ p.1) × (witness t p.0 p.1 ≡ some x.witness)
  unfolding on_pair
  on_race p x m = go (witness t p.0 p.1) refl m
    where
      go : (o : Option (List ℕ)) → witness t p.0 p.1 ≡ o → Memᴰ x (race_with p.0 p.1 o) → (x.lower ≡ p.0) × (x.higher ≡ p.1) × (witness t p.0 p.1 ≡ some x.witness)
      go none e m = absurd (Memᴰ.not-nil m)
      go (some ρ) e m =
          let q = Memᴰ.eq_of_singleton m in
          (ap (λ (y : Race). y.lower) q, ap (λ (y : Race). y.higher) q, e ∙ ap some (sym (ap (λ (y : Race). y.witness) q)))

  races_sorted : Sorted pair_of (races t)
  unfolding races on_pair
  races_sorted =
      each_ordered on_pair (λ x y. After (pair_of x) (pair_of y)) Before (λ p. go p.0 p.1 (witness t p.0 p.1))
      (λ j k x y l m n. let p = on_race j x m in let q = on_race k y n in rw (p.0, p.1, q.0, q.1) l)
      (conflicting_pairs t) pairs_sorted
    where
      go : (a b : ℕ) (o : Option (List ℕ)) → Sorted pair_of (race_with a b o)
      go a b none = tt
      go a b (some ρ) = ((λ y m. absurd (Memᴰ.not-nil m)), tt)

  module _ (w : WellFormed t) where
    -- the listing has exactly the races, in order
    pub races_listing : Listing pair_of (RaceOf t) (races t)
    unfolding races on_pair
    races_listing = record {
      members = λ x. (
        (λ m.
            let r = mem_each on_pair x (conflicting_pairs t) m in
            let q = on_race r.0 x r.2 in of_pair x r.0 q.0 q.1 ((pairs_exactly r.0).0 r.1) q.2),
        (λ r.
            let c = r.conflicting in
            each_mem on_pair x ((pairs_exactly (x.lower, x.higher)).1 c)
            (rw ((witness_exactly t w x.lower x.higher c x.witness).1 r.shown) (Memᴰ.head refl))),
      );
      sorted = races_sorted;
    }
      where
        of_pair : (x : Race) (p : ℕ × ℕ) → x.lower ≡ p.0 → x.higher ≡ p.1 → Conflicting t p.0 p.1 → witness t p.0 p.1 ≡ some x.witness → RaceOf t x
        of_pair x p l h c e =
            let d : Conflicting t x.lower x.higher = rw (l, h) c in
            record { conflicting = d; shown = (witness_exactly t w x.lower x.higher d x.witness).0 (rw (l, h) e) }

-- ---- the first after (a, b)

module _ (t : Trace) (w : WellFormed t) (a b : ℕ) where
  -- the answer is the first race after (a, b)
  pub next_exactly : (x : Race) → (next_race t a b ≡ some x) ↔ FirstAfter pair_of (RaceOf t) (pair a b) x
  unfolding next_race
  next_exactly x = first-after_exactly pair_of (pair a b) (races_listing t w) x

  -- and none exactly where there is none
  pub next-none : (next_race t a b ≡ none) ↔ ((x : Race) → RaceOf t x → ¬ After (pair a b) (pair_of x))
  unfolding next_race
  next-none = none-after_exactly pair_of (pair a b) (races_listing t w)
