-- What must stand before, as computed: a solution has it, and a staircase that has it meets the lower bounds.
use Prim.Native.Nat.{ℕ, ◌≤◌, ◌<◌}
use native.Mathlib.Omega.{arith}
use mathlib.Core.Path.{◌≡◌, refl, sym, ◌∙◌, ap}
use mathlib.Core.Logic.{◌⊎◌, inl, inr, ⊎_elim}
use mathlib.Core.Bool.{true, false, ◌&&◌, not}
use mathlib.Core.List.{List}
use lib.Dec.{eqb, leb, ltb}
use borrow.Author.Tests.{eqb-true, eq-eqb, leb-true, le-leb, ltb-true, lt-ltb, not-true}
use Rattle.model.specs.Trace.{Trace, Valid, read, write, kind_of, object_of, does}
use Rattle.model.specs.Lists.{◌∈◌, listed, all_but, own, only}
use Rattle.model.specs.Observed.{observed}
use Rattle.model.specs.Awaits.{Awaits}
use Rattle.model.specs.Sections.{is_outermost}
use Rattle.model.specs.Cone.{matching}
use Rattle.decision.specs.Check.{is_awaited}
use Rattle.decision.specs.Rounds.{is_observed, cone}
use Rattle.decision.specs.Stairs.{is_alike, is_within, is_overwriting, is_read_over, is_unended, is_bound, is_kept_apart, is_rising, is_forced}
use Rattle.model.proofs.Tests.{clash, both, true_both, either_true, true-either, or_right, false_test, does-true, true-does}
use Rattle.model.proofs.Lists.{any_mem, mem_any, mem_listed, listed_mem}
use Rattle.model.proofs.SectionsExact.{outermost_acquires}
use Rattle.decision.proofs.Solutions.{Closed, Open, Part, Reaches, Lower, Solution, Settled}
use Rattle.decision.proofs.CheckExact.{awaited_true, true_awaited}
use Rattle.decision.proofs.ConeParts.{section, ends, release-part, part-P, part-Q, P-part, Q-part}
use Rattle.decision.proofs.IntervalTests.{observed-true, true-observed, Alike, alike_true, true_alike, true_within, within_write, within_section}

module _ (t : Trace) (R : List ℕ) (m : ℕ) (v : (r : ℕ) → r ∈ R → Valid t r) where
  abbrev P : List ℕ
  P = own t m (cone t R)

  abbrev Q : List ℕ
  Q = only t (all_but m) (cone t R)

  -- k is of P, and of Q
  abbrev moved : ℕ → Type 0
  moved k = Part t R m true k

  abbrev other : ℕ → Type 0
  other k = Part t R m false k

  -- ---- a solution has what must stand before

  module _ (h : ℕ → ℕ) (s : Solution t R m h) where
    -- p is in a section of P that begins before one of Q ends, or that one has no end
    section_first : (a b p : ℕ) → moved a → other b → is_outermost t a ≡ true → is_outermost t b ≡ true → object_of t a ≡ object_of t b → is_within t a p ≡ true
        → (Closed t R b → a ≤ h (matching t b)) → p ≤ h b
    section_first a b p x y oa ob e i l =
        let of-b = section t R v b ob y.inside in
        ⊎_elim
        (λ c.
        let le : matching t a ≤ h b = ⊎_elim (λ d. s.lower.sections a b x y c d e (l d)) (λ d. s.lower.opening a b x y c d e) of-b in
        let lt = (ends t R v a c.ended).later in
        ⊎_elim (λ z. omega arith) (λ z. omega arith) (within_section t R v a p x.inside oa i))
        (λ c.
        absurd (⊎_elim
        (λ d. let z = l d in let u = s.clear.endless a b x y c d e in let n : ⊥ = omega arith in n)
        (λ d. s.clear.one_open a b x y c d e)
        of-b))
        (section t R v a oa x.inside)

    has_overwriting : (p q : ℕ) → moved p → other q → is_overwriting t P p q ≡ true → p ≤ h q
    unfolding is_overwriting
    has_overwriting p q x y e =
        let a = both (eqb (kind_of t p) read && not (listed (observed t p) P)) _ e in
        let b = both (eqb (kind_of t p) read) (not (listed (observed t p) P)) a.0 in
        let c = both (does t write (object_of t p) q) (ltb p q) a.1 in
        s.lower.overwriting p q x y (eqb-true _ _ b.0) (λ z. clash (mem_listed (P-part t R v m _ z)) (not-true _ b.1)) c.0 (ltb-true p q c.1)

    has-read_over : (p q : ℕ) → moved p → other q → is_read_over t P p q ≡ true → p ≤ h q
    unfolding is_read_over
    has-read_over p q x y e =
        let f = mem_any _ P e in
        let k = f.0 in
        let a = both (is_observed t k q) _ f.2 in
        let b = both (does t write (object_of t k) p) (ltb p k) a.1 in
        let o = observed-true t k q a.0 in
        s.lower.observed_last p k q x (part-P t R v m k f.1) y o.0 o.1 b.0 (ltb-true p k b.1)

    has_unended : (p q : ℕ) → moved p → other q → is_unended t P Q p q ≡ true → p ≤ h q
    unfolding is_unended
    has_unended p q x y e =
        let a = both (is_outermost t q && not (listed (matching t q) Q)) _ e in
        let b = both (is_outermost t q) (not (listed (matching t q) Q)) a.0 in
        let f = mem_any _ P a.1 in
        let u = f.0 in
        let c = both (is_alike t u q) (is_within t u p) f.2 in
        let d = alike_true t u q c.0 in
        let ou : is_outermost t u ≡ true = ⊎_elim (λ w. let z = w.1 in let o = outermost_acquires t q b.0 in absurd (omega arith)) (λ o. o.0) d.1 in
        section_first u q p (part-P t R v m u f.1) y ou b.0 d.0 c.1
        (λ z. clash (mem_listed (Q-part t R v m _ (release-part t R v m q y z.ended))) (not-true _ b.1))

    has_bound : (p q : ℕ) → moved p → other q → is_bound t P Q p q ≡ true → p ≤ h q
    unfolding is_bound
    has_bound p q x y e =
        ⊎_elim
        (λ a. s.lower.awaiting p q x y (awaited_true t q p a))
        (λ w.
        ⊎_elim
        (λ a. let o = observed-true t q p a in s.lower.observing p q x y o.0 o.1)
        (λ a.
        ⊎_elim
        (has_overwriting p q x y)
        (λ b. ⊎_elim (has-read_over p q x y) (has_unended p q x y) (either_true (is_read_over t P p q) (is_unended t P Q p q) b))
        (either_true (is_overwriting t P p q) _ a))
        (either_true (is_observed t q p) _ w))
        (either_true (is_awaited t q p) _ e)

    has-kept_apart : (p q : ℕ) → moved p → other q → is_kept_apart t P Q h p q ≡ true → p ≤ h q
    unfolding is_kept_apart
    has-kept_apart p q x y e =
        let f = mem_any _ P e in
        let u = f.0 in
        let xu = part-P t R v m u f.1 in
        let a = both (is_alike t u q && is_within t u p) _ f.2 in
        let b = both (is_alike t u q) (is_within t u p) a.0 in
        let g = mem_any _ Q a.1 in
        let k = g.0 in
        let yk = part-Q t R v m k g.1 in
        let c = both (is_within t q k) (leb u (h k)) g.2 in
        let le : u ≤ h k = leb-true _ _ c.1 in
        let d = alike_true t u q b.0 in
        ⊎_elim
        (λ w.
        s.lower.cells (object_of t u) u p q k xu x y yk (true-does t write (object_of t u) u w.0 refl) (true-does t write (object_of t u) q w.1 (sym d.0))
        (within_write t R v u p x.inside w.0 b.1) (within_write t R v q k yk.inside w.1 c.0) le)
        (λ o.
        section_first u q p xu y o.0 o.1 d.0 b.1 (λ z.
        ⊎_elim
        (λ i.
        let j : u ≤ h q = rw i at le in
        let n = s.lower.rises q (matching t q) y (release-part t R v m q y z.ended) (ends t R v q z.ended).later in
        omega arith)
        (λ i. rw i le)
        (within_section t R v q k y.inside o.1 c.0)))
        d.1

    has_rising : (p q : ℕ) → moved p → other q → is_rising Q h p q ≡ true → p ≤ h q
    unfolding is_rising
    has_rising p q x y e =
        let f = mem_any _ Q e in
        let a = both (ltb f.0 q) (leb p (h f.0)) f.2 in
        let z = leb-true p (h f.0) a.1 in
        let n = s.lower.rises f.0 q (part-Q t R v m f.0 f.1) y (ltb-true _ _ a.0) in
        omega arith

    pub solution_settled : Settled t R m h
    unfolding is_forced
    solution_settled p q i j e =
        let x = part-P t R v m p i in
        let y = part-Q t R v m q j in
        ⊎_elim
        (has_bound p q x y)
        (λ a. ⊎_elim (has-kept_apart p q x y) (has_rising p q x y) (either_true (is_kept_apart t P Q h p q) (is_rising Q h p q) a))
        (either_true (is_bound t P Q p q) _ e)

  -- ---- a staircase that has it meets the lower bounds

  module _ (g : ℕ → ℕ) (c : Settled t R m g)
      (known : (q : ℕ) → q ∈ only t (all_but m) (cone t R) → (g q ≡ 0) ⊎ (g q ∈ own t m (cone t R))) where
    bound : (p q : ℕ) → moved p → other q → is_bound t P Q p q ≡ true → p ≤ g q
    unfolding is_forced
    bound p q x y e = c p q (P-part t R v m p x) (Q-part t R v m q y) (rw e)

    awaiting : (p q : ℕ) → moved p → other q → Awaits t q p → p ≤ g q
    unfolding is_bound
    awaiting p q x y a = bound p q x y (rw (true_awaited t q p a))

    observing : (p q : ℕ) → moved p → other q → kind_of t q ≡ read → observed t q ≡ p → p ≤ g q
    unfolding is_bound
    observing p q x y r o = bound p q x y (or_right (is_awaited t q p) (rw (true-observed t q p r o)))

    overwriting : (p q : ℕ) → moved p → other q → kind_of t p ≡ read → ¬ moved (observed t p) → does t write (object_of t p) q ≡ true → p < q → p ≤ g q
    unfolding is_bound is_overwriting
    overwriting p q x y r out d lt =
        let n : listed (observed t p) P ≡ false = false_test (λ e. part-P t R v m _ (listed_mem (observed t p) P e)) out in
        bound p q x y (or_right (is_awaited t q p) (or_right (is_observed t q p) (rw (eq-eqb (kind_of t p) read r, n, d, lt-ltb p q lt))))

    observed_last : (u p q : ℕ) → moved u → moved p → other q → kind_of t p ≡ read → observed t p ≡ q → does t write (object_of t p) u ≡ true → u < p → u ≤ g q
    unfolding is_bound is_read_over
    observed_last u p q x xp y r o d lt =
        bound u q x y (or_right (is_awaited t q u) (or_right (is_observed t q u) (or_right (is_overwriting t P u q) (true-either (is_read_over t P u q) _ (inl
        (any_mem _ (P-part t R v m p xp) (true_both (true-observed t p q r o) (true_both d (lt-ltb u p lt)))))))))

    opening : (a b : ℕ) → moved a → other b → Closed t R a → Open t R b → object_of t a ≡ object_of t b → matching t a ≤ g b
    unfolding is_bound is_unended
    opening a b x y i o e =
        let n : listed (matching t b) Q ≡ false = false_test (λ d. (part-Q t R v m _ (listed_mem (matching t b) Q d)).inside) o.unended in
        bound (matching t a) b (release-part t R v m a x i.ended) y
        (or_right (is_awaited t b (matching t a)) (or_right (is_observed t b (matching t a)) (or_right (is_overwriting t P (matching t a) b) (or_right (is_read_over t P (matching t a) b)
        (true_both (true_both o.outermost (ap not n)) (any_mem _ (P-part t R v m a x) (true_both (true_alike t a b (e, inr (i.outermost, o.outermost))) (true_within t a (matching t a) (inr refl)))))))))

    -- the interval of u begins before k, which is in that of q
    kept_apart : (u p q k : ℕ) → moved u → moved p → other q → other k → Alike t u q → Reaches t u p ⊎ (matching t u ≡ p) → Reaches t q k ⊎ (matching t q ≡ k) → u ≤ g k → p ≤ g q
    unfolding is_forced is_kept_apart
    kept_apart u p q k xu xp y yk a i j le =
        c p q (P-part t R v m p xp) (Q-part t R v m q y) (or_right (is_bound t P Q p q) (true-either (is_kept_apart t P Q g p q) _ (inl
        (any_mem _ (P-part t R v m u xu) (true_both (true_both (true_alike t u q a) (true_within t u p i))
        (any_mem _ (Q-part t R v m k yk) (true_both (true_within t q k j) (le-leb u (g k) le))))))))

    rises : (q r : ℕ) → other q → other r → q < r → g q ≤ g r
    unfolding is_forced is_rising
    rises q r x y lt =
        ⊎_elim
        (λ z. let e : g q ≡ 0 = z in omega arith)
        (λ n.
        c (g q) r n (Q-part t R v m r y) (or_right (is_bound t P Q (g q) r) (or_right (is_kept_apart t P Q g (g q) r)
        (any_mem _ (Q-part t R v m q x) (true_both (lt-ltb q r lt) (le-leb (g q) (g q) (omega arith)))))))
        (known q (Q-part t R v m q x))

    pub settled_lower : Lower t R m g
    settled_lower = record {
      rises = rises;
      awaiting = awaiting;
      observing = observing;
      overwriting = overwriting;
      observed_last = observed_last;
      cells = λ x u p q k xu xp y yk du dq i j le.
          let a = does-true t write x u du in
          let b = does-true t write x q dq in
          kept_apart u p q k xu xp y yk (a.1 ∙ sym b.1, inl (a.0, b.0)) (inl i) (inl j) le;
      sections = λ a b x y i j e le.
          kept_apart a (matching t a) b (matching t b) x (release-part t R v m a x i.ended) y (release-part t R v m b y j.ended) (e, inr (i.outermost, j.outermost)) (inr refl) (inr refl) le;
      opening = opening;
    }
