-- Merges by staircases: the merge stands in the staircase's order, a list in that order is the merge of its parts, and a lower staircase gives the preferred merge.
use Prim.Native.Nat.{ℕ, ◌≤◌, ◌<◌}
use native.Mathlib.Omega.{arith}
use mathlib.Core.Path.{◌≡◌, refl, sym, ◌∙◌, ap}
use mathlib.Core.Logic.{◌≢◌, ◌⊎◌, inl, inr, ⊎_elim}
use mathlib.Core.Bool.{Bool, true, false}
use mathlib.Core.List.Memᴰ
use mathlib.Core.List.{List, [], ◌∷◌}
use lib.Dec.{eqb, leb}
use borrow.Author.Tests.{leb-true, leb-false, le-leb, lt-leb, eqb-true, eqb-false, eq-eqb, ne_eqb}
use Rattle.model.specs.Trace.{Trace, thread_of}
use Rattle.model.specs.Lists.{◌∈◌, Ordered, nearest, only, own, just, all_but}
use Rattle.model.specs.Race.{Increasing, Preferred}
use Rattle.model.proofs.Tests.{by_cases, in_cons, just-true, just-false, false-just, all_but-true, true-all_but, false-all_but}
use Rattle.model.proofs.Lists.{mem_only, nearest_mem, nearest_passes, none-nearest}
use Rattle.model.proofs.Histories.{Legal, legal_valid, enabled_out}
use Rattle.decision.specs.Stairs.{climb}
use Rattle.decision.proofs.InOrder.{Down, nearest_top}
use Rattle.decision.proofs.Solutions.{Ahead, Stands, stair_at}

-- ---- the order of a staircase

module _ (g : ℕ → ℕ) where
  ahead_asym : (a b : Bool) (j k : ℕ) → Ahead g a b j k → Ahead g b a k j → ⊥
  ahead_asym true true j k p q = omega arith
  ahead_asym true false j k p q = omega arith
  ahead_asym false true j k p q = omega arith
  ahead_asym false false j k p q = omega arith

  -- by the lists of the two events
  pub ahead_by : (a b : Bool) (j k : ℕ) → (a ≡ b → j < k) → (a ≡ true → b ≡ false → j ≤ g k) → (a ≡ false → b ≡ true → g j < k) → Ahead g a b j k
  ahead_by true true j k p q r = p refl
  ahead_by true false j k p q r = q refl refl
  ahead_by false true j k p q r = r refl refl
  ahead_by false false j k p q r = p refl

  pub by_ahead : {G : Type 0} (a b : Bool) (j k : ℕ) → Ahead g a b j k → (a ≡ b → j < k → G) → (a ≡ true → b ≡ false → j ≤ g k → G) → (a ≡ false → b ≡ true → g j < k → G) → G
  by_ahead true true j k l p q r = p refl l
  by_ahead true false j k l p q r = q refl refl l
  by_ahead false true j k l p q r = r refl refl l
  by_ahead false false j k l p q r = p refl l

  pub stands_asym : (t : Trace) (m j k : ℕ) → Stands t m g j k → Stands t m g k j → ⊥
  stands_asym t m j k p q = ahead_asym (just m (thread_of t j)) (just m (thread_of t k)) j k p q

-- two orders of one list agree on its members
pub same_order : (F G : ℕ → ℕ → Type 0) → ((j k : ℕ) → G j k → G k j → ⊥) → (h : List ℕ) → Down F h → Down G h → (j k : ℕ) → j ∈ h → k ∈ h → G j k → F j k
same_order F G asym [] d e j k m n p = absurd (Memᴰ.not-nil m)
same_order F G asym (x ∷ h) d e j k m n p =
    in_cons m
    (λ a. in_cons n (λ b. let z : G x x = rw (a, b) at p in absurd (asym x x z z)) (λ b. absurd (asym j k p (rw a (e.0 k b)))))
    (λ a. in_cons n (λ b. rw b (d.0 j a)) (λ b. same_order F G asym h d.1 e.1 j k a b p))

module _ (t : Trace) (m : ℕ) (g : ℕ → ℕ) where
  -- ---- a list in the order is the merge of its parts

  climb-nil : (P : List ℕ) → climb g P [] ≡ P
  unfolding climb
  climb-nil [] = refl
  climb-nil (p ∷ P) = refl

  head_P : (x : ℕ) (P Q ρ : List ℕ) → ((q : ℕ) → q ∈ Q → x ≤ g q) → climb g P Q ≡ ρ → climb g (x ∷ P) Q ≡ x ∷ ρ
  unfolding climb
  head_P x P [] ρ f e = ap (λ (l : List ℕ). x ∷ l) (sym (climb-nil P) ∙ e)
  head_P x P (q ∷ Q) ρ f e = rw (le-leb x (g q) (f q (Memᴰ.head refl)), climb) (ap (λ (l : List ℕ). x ∷ l) e)

  head_Q : (x : ℕ) (P Q ρ : List ℕ) → ((p : ℕ) → p ∈ P → g x < p) → climb g P Q ≡ ρ → climb g P (x ∷ Q) ≡ x ∷ ρ
  unfolding climb
  head_Q x [] Q ρ f e = ap (λ (l : List ℕ). x ∷ l) e
  head_Q x (p ∷ P) Q ρ f e = rw (lt-leb p (g x) (f p (Memᴰ.head refl)), climb) (ap (λ (l : List ℕ). x ∷ l) e)

  pub climb_of : (ρ : List ℕ) → Ordered (Stands t m g) ρ → climb g (own t m ρ) (only t (all_but m) ρ) ≡ ρ
  climb_of [] u = climb-nil []
  climb_of (x ∷ ρ) u =
      by_cases (just m (thread_of t x))
      (λ e.
      rw (e, false-all_but m _ (just-true m _ e)) (head_P x (own t m ρ) (only t (all_but m) ρ) ρ (λ q n.
      let y = mem_only t (all_but m) q ρ n in
      rw (e, false-just m _ (all_but-true m _ y.1)) at (u.0 q y.0)) (climb_of ρ u.1)))
      (λ e.
      rw (e, true-all_but m _ (just-false m _ e)) (head_Q x (own t m ρ) (only t (all_but m) ρ) ρ (λ p n.
      let y = mem_only t (just m) p ρ n in
      rw (e, y.1) at (u.0 p y.0)) (climb_of ρ u.1)))

  -- in such a list each part is in the trace's order
  pub up_increasing : (ρ : List ℕ) → Ordered (Stands t m g) ρ → Increasing (only t (all_but m) ρ)
  up_increasing [] u = tt
  up_increasing (x ∷ ρ) u =
      by_cases (just m (thread_of t x))
      (λ e. rw (false-all_but m _ (just-true m _ e)) (up_increasing ρ u.1))
      (λ e.
      rw (true-all_but m _ (just-false m _ e)) (
        (λ y n. let z = mem_only t (all_but m) y ρ n in rw (e, false-just m _ (all_but-true m _ z.1)) at (u.0 y z.0)),
        up_increasing ρ u.1,
      ))

  -- ---- the merge stands in the order

  pub climb_mem : (P Q : List ℕ) (y : ℕ) → y ∈ climb g P Q → (y ∈ P) ⊎ (y ∈ Q)
  unfolding climb
  climb_mem [] Q y n = inr n
  climb_mem (p ∷ P) [] y n = inl n
  climb_mem (p ∷ P) (q ∷ Q) y n =
      by_cases (leb p (g q))
      (λ e. in_cons (rw (e, climb) at n) (λ d. inl (Memᴰ.head d)) (λ i. ⊎_elim (λ a. inl (Memᴰ.tail a)) (λ a. inr a) (climb_mem P (q ∷ Q) y i)))
      (λ e. in_cons (rw (e, climb) at n) (λ d. inr (Memᴰ.head d)) (λ i. ⊎_elim (λ a. inl a) (λ a. inr (Memᴰ.tail a)) (climb_mem (p ∷ P) Q y i)))

  pub mem_climb : (P Q : List ℕ) (y : ℕ) → (y ∈ P) ⊎ (y ∈ Q) → y ∈ climb g P Q
  unfolding climb
  mem_climb [] Q y n = ⊎_elim (λ a. absurd (Memᴰ.not-nil a)) (λ a. a) n
  mem_climb (p ∷ P) [] y n = ⊎_elim (λ a. a) (λ a. absurd (Memᴰ.not-nil a)) n
  mem_climb (p ∷ P) (q ∷ Q) y n =
      by_cases (leb p (g q))
      (λ e. rw (e, climb) (⊎_elim (λ a. in_cons a (λ d. Memᴰ.head d) (λ i. Memᴰ.tail (mem_climb P (q ∷ Q) y (inl i)))) (λ a. Memᴰ.tail (mem_climb P (q ∷ Q) y (inr a))) n))
      (λ e. rw (e, climb) (⊎_elim (λ a. Memᴰ.tail (mem_climb (p ∷ P) Q y (inl a))) (λ a. in_cons a (λ d. Memᴰ.head d) (λ i. Memᴰ.tail (mem_climb (p ∷ P) Q y (inr i)))) n))

  abbrev Side : Bool → List ℕ → Type 0
  Side b l = (k : ℕ) → k ∈ l → just m (thread_of t k) ≡ b

  one_list : (b : Bool) (l : List ℕ) → Side b l → Increasing l → Ordered (Stands t m g) l
  one_list b [] s i = tt
  one_list true (x ∷ l) s i = ((λ y n. rw (s x (Memᴰ.head refl), s y (Memᴰ.tail n)) (i.0 y n)), one_list true l (λ k n. s k (Memᴰ.tail n)) i.1)
  one_list false (x ∷ l) s i = ((λ y n. rw (s x (Memᴰ.head refl), s y (Memᴰ.tail n)) (i.0 y n)), one_list false l (λ k n. s k (Memᴰ.tail n)) i.1)

  pub climb_up : (P Q : List ℕ) → Side true P → Side false Q → Increasing P → Increasing Q → ((q r : ℕ) → q ∈ Q → r ∈ Q → q < r → g q ≤ g r) → Ordered (Stands t m g) (climb g P Q)
  unfolding climb
  climb_up [] Q sp sq ip iq up = one_list false Q sq iq
  climb_up (p ∷ P) [] sp sq ip iq up = one_list true (p ∷ P) sp ip
  climb_up (p ∷ P) (q ∷ Q) sp sq ip iq up =
      by_cases (leb p (g q))
      (λ e.
      let le = leb-true p (g q) e in
      rw (e, climb) (
        (λ y n. ⊎_elim
            (λ i. rw (sp p (Memᴰ.head refl), sp y (Memᴰ.tail i)) (ip.0 y i))
            (λ i. rw (sp p (Memᴰ.head refl), sq y i) (in_cons i
            (λ d. rw d le)
            (λ j. let z = up q y (Memᴰ.head refl) (Memᴰ.tail j) (iq.0 y j) in omega arith)))
            (climb_mem P (q ∷ Q) y n)),
        climb_up P (q ∷ Q) (λ k n. sp k (Memᴰ.tail n)) sq ip.1 iq up,
      ))
      (λ e.
      let lt = leb-false p (g q) e in
      rw (e, climb) (
        (λ y n. ⊎_elim
            (λ i. rw (sq q (Memᴰ.head refl), sp y i) (in_cons i (λ d. rw d lt) (λ j. let z = ip.0 y j in omega arith)))
            (λ i. rw (sq q (Memᴰ.head refl), sq y (Memᴰ.tail i)) (iq.0 y i))
            (climb_mem (p ∷ P) Q y n)),
        climb_up (p ∷ P) Q sp (λ k n. sq k (Memᴰ.tail n)) ip iq.1 (λ a b i j. up a b (Memᴰ.tail i) (Memᴰ.tail j)),
      ))

-- ---- the lower of two staircases gives the preferred merge

pub climb_preferred : (t : Trace) (m : ℕ) (g h : ℕ → ℕ) (P Q : List ℕ) → ((k : ℕ) → k ∈ P → just m (thread_of t k) ≡ true) → ((k : ℕ) → k ∈ Q → just m (thread_of t k) ≡ false)
    → ((q : ℕ) → q ∈ Q → g q ≤ h q) → (climb g P Q ≡ climb h P Q) ⊎ Preferred t m (climb g P Q) (climb h P Q)
unfolding climb
climb_preferred t m g h [] Q sp sq le = inl refl
climb_preferred t m g h (p ∷ P) [] sp sq le = inl refl
climb_preferred t m g h (p ∷ P) (q ∷ Q) sp sq le =
    by_cases (leb p (g q))
    (λ e.
    let a = leb-true p (g q) e in
    let b = le q (Memᴰ.head refl) in
    let c : p ≤ h q = omega arith in
    rw (e, le-leb p (h q) c, climb) (⊎_elim
    (λ i. inl (ap (λ (l : List ℕ). p ∷ l) i))
    (λ i. inr (inl (refl, i)))
    (climb_preferred t m g h P (q ∷ Q) (λ k n. sp k (Memᴰ.tail n)) sq le)))
    (λ e.
    by_cases (leb p (h q))
    (λ f. rw (e, f, climb) (inr (inr (just-false m _ (sq q (Memᴰ.head refl)), just-true m _ (sp p (Memᴰ.head refl))))))
    (λ f.
    rw (e, f, climb) (⊎_elim
    (λ i. inl (ap (λ (l : List ℕ). q ∷ l) i))
    (λ i. inr (inl (refl, i)))
    (climb_preferred t m g h (p ∷ P) Q sp (λ k n. sq k (Memᴰ.tail n)) (λ k n. le k (Memᴰ.tail n))))))

-- ---- the staircase of a history

module _ (t : Trace) (m : ℕ) where
  abbrev moves : ℕ → Bool
  moves k = just m (thread_of t k)

  -- an event of the history that is of the moved thread, or 0
  pub stair_known : (h : List ℕ) (q : ℕ) → (stair_at t m h q ≡ 0) ⊎ ((stair_at t m h q ∈ h) × (just m (thread_of t (stair_at t m h q)) ≡ true))
  stair_known [] q = inl refl
  stair_known (x ∷ h) q =
      by_cases (eqb x q)
      (λ e. rw e (by_cases (eqb (nearest moves h) 0)
      (λ z. inl (eqb-true _ _ z))
      (λ z. let ne = eqb-false _ _ z in inr (Memᴰ.tail (nearest_mem moves h ne), nearest_passes moves h ne))))
      (λ e. rw e (⊎_elim (λ z. inl z) (λ z. inr (Memᴰ.tail z.0, z.1)) (stair_known h q)))

  -- one of the list comes before another only in the trace's order
  abbrev pub Turn : ℕ → ℕ → Type 0
  Turn j k = just m (thread_of t j) ≡ just m (thread_of t k) → j < k

  down_same : (g f : ℕ → ℕ) (h : List ℕ) → ((k : ℕ) → k ∈ h → g k ≡ f k) → Down (Stands t m f) h → Down (Stands t m g) h
  down_same g f [] e d = tt
  down_same g f (x ∷ h) e d = (
    (λ y n. same (moves y) (moves x) y x (e y (Memᴰ.tail n)) (e x (Memᴰ.head refl)) (d.0 y n)),
    down_same g f h (λ k n. e k (Memᴰ.tail n)) d.1,
  )
    where
      same : (a b : Bool) (j k : ℕ) → g j ≡ f j → g k ≡ f k → Ahead f a b j k → Ahead g a b j k
      same true true j k p q l = l
      same true false j k p q l = omega arith
      same false true j k p q l = omega arith
      same false false j k p q l = l

  last : (h : List ℕ) → Legal t h → Down Turn h → (y : ℕ) → y ∈ h → moves y ≡ true → y ≤ nearest moves h
  last h l d y n e =
      let ne : nearest moves h ≢ 0 = λ z. none-nearest moves h (λ k i. (legal_valid t h l k i).positive) z y n e in
      ⊎_elim
      (λ q. let z : y ≡ nearest moves h = q in omega arith)
      (λ q. let z : y < nearest moves h = q (e ∙ sym (nearest_passes moves h ne)) in omega arith)
      (nearest_top Turn moves h d y n e)

  pub stair_down : (h : List ℕ) → Legal t h → Down Turn h → Down (Stands t m (stair_at t m h)) h
  stair_down [] l d = tt
  stair_down (x ∷ h) l d =
      let off : (y : ℕ) → y ∈ h → stair_at t m (x ∷ h) y ≡ stair_at t m h y =
      λ y n. rw (ne_eqb x y (λ z. enabled_out t h x l.0.enabled.next (rw (sym z) at n))) in
      let top : stair_at t m (x ∷ h) x ≡ nearest moves h = rw (eq-eqb x x refl) in (
        (λ y n. ahead_by (stair_at t m (x ∷ h)) (moves y) (moves x) y x (d.0 y n)
            (λ a b. rw top (last h l.1 d.1 y n a))
            (λ a b. rw (off y n) (⊎_elim
            (λ z. let u : stair_at t m h y ≡ 0 = z in let p = l.0.enabled.next.valid.positive in omega arith)
            (λ z. d.0 (stair_at t m h y) z.0 (z.1 ∙ sym b))
            (stair_known h y)))),
        down_same (stair_at t m (x ∷ h)) (stair_at t m h) h off (stair_down h l.1 d.1),
      )
