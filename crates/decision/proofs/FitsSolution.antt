-- A staircase whose order fits the rules is a solution.
use Prim.Native.Nat.{ℕ, ◌≤◌, ◌<◌}
use native.Mathlib.Omega.{arith}
use mathlib.Core.Path.{◌≡◌, refl, sym, ◌∙◌}
use mathlib.Core.Logic.{◌≢◌, ⊎_elim}
use mathlib.Core.Bool.{Bool, true, false}
use mathlib.Core.List.{List}
use lib.Dec.{eqb, leb}
use borrow.Author.Tests.{eqb-true, eqb-false, leb-true, leb-false}
use Rattle.model.specs.Trace.{Trace, Valid, read, write, thread_of, kind_of, object_of, does}
use Rattle.model.specs.Lists.{◌∈◌, just}
use Rattle.model.specs.Observed.{observed}
use Rattle.model.specs.Sections.{is_outermost}
use Rattle.model.specs.Cone.{InCone, brought, observes, matching}
use Rattle.model.proofs.Tests.{by_cases, clash, does-true}
use Rattle.decision.proofs.Solutions.{Rival, Part, Reaches, Solution, Stands}
use Rattle.decision.proofs.Fits.{Fits}
use Rattle.decision.proofs.ConeParts.{cone-positive, the_last, release-part}

module _ (t : Trace) (R : List ℕ) (m : ℕ) (v : (r : ℕ) → r ∈ R → Valid t r) (g : ℕ → ℕ) where
  abbrev side : ℕ → Bool
  side k = just m (thread_of t k)

  abbrev F : ℕ → ℕ → Type 0
  F = Stands t m g

  -- what the order says of an event of each list
  PQ : {p q : ℕ} → Part t R m true p → Part t R m false q → F p q → p ≤ g q
  PQ x y l = rw (x.list, y.list) at l

  QP : {p q : ℕ} → Part t R m true p → Part t R m false q → F q p → g q < p
  QP x y l = rw (y.list, x.list) at l

  says_PQ : {p q : ℕ} → Part t R m true p → Part t R m false q → p ≤ g q → F p q
  says_PQ x y l = rw (x.list, y.list) l

  says_QP : {p q : ℕ} → Part t R m true p → Part t R m false q → g q < p → F q p
  says_QP x y l = rw (y.list, x.list) l

  PP : {p q : ℕ} → Part t R m true p → Part t R m true q → F p q → p < q
  PP x y l = rw (x.list, y.list) at l

  says_PP : {p q : ℕ} → Part t R m true p → Part t R m true q → p < q → F p q
  says_PP x y l = rw (x.list, y.list) l

  QQ : {p q : ℕ} → Part t R m false p → Part t R m false q → F p q → p < q
  QQ x y l = rw (x.list, y.list) at l

  says_QQ : {p q : ℕ} → Part t R m false p → Part t R m false q → p < q → F p q
  says_QQ x y l = rw (x.list, y.list) l

  two_lists : {p q : ℕ} → Part t R m true p → Part t R m false q → p ≢ q
  two_lists {p} {q} x y e = clash (rw e at x.list) y.list

  -- an event of P stands before one of Q where that cannot stand before it
  unless : {p q : ℕ} → Part t R m true p → Part t R m false q → ¬ F q p → p ≤ g q
  unless {p} {q} x y n = by_cases (leb p (g q)) (λ e. leb-true p (g q) e) (λ e. absurd (n (says_QP x y (leb-false p (g q) e))))

  unless_not : {p q : ℕ} → Part t R m true p → Part t R m false q → ¬ F p q → g q < p
  unless_not {p} {q} x y n = by_cases (leb p (g q)) (λ e. absurd (n (says_PQ x y (leb-true p (g q) e)))) (λ e. leb-false p (g q) e)

  positive : {b : Bool} {k : ℕ} → Part t R m b k → k ≢ 0
  positive x = cone-positive t R v x.inside

  rival : {b c : Bool} (k o u : ℕ) → Part t R m b k → kind_of t k ≡ read → observed t k ≡ o → o ≢ 0 → Part t R m c u → does t write (object_of t k) u ≡ true → u ≢ o → Rival t R k o u
  rival k o u x r e ne y d n = record { reader = x.inside; reads = r; observes = e; written = ne; begun = y.inside; writes = d; other = n }

  -- a write of the cell of a write is one of the cell of its readers
  cell_of : (x k o u : ℕ) → observed t k ≡ o → o ≢ 0 → does t write x o ≡ true → does t write x u ≡ true → does t write (object_of t k) u ≡ true
  cell_of x k o u e ne p q =
      let z : object_of t k ≡ x = sym (the_last t R v k o e ne).cell ∙ (does-true t write x o p).1 in
      rw z q

  module _ (f : Fits t R (Stands t m g)) (up : (q r : ℕ) → Part t R m false q → Part t R m false r → q < r → g q ≤ g r) where
    fit_overwriting : (p q : ℕ) → Part t R m true p → Part t R m false q → kind_of t p ≡ read → ¬ Part t R m true (observed t p)
        → does t write (object_of t p) q ≡ true → p < q → p ≤ g q
    fit_overwriting p q x y r out d lt =
        unless x y (λ l.
        by_cases (eqb (observed t p) 0)
        (λ z. f.start p q x.inside r (eqb-true _ _ z) y.inside d l)
        (λ z.
        let ne = eqb-false _ _ z in
        let o = observed t p in
        let i : InCone t R o = brought x.inside (observes r refl ne) in
        let low = (the_last t R v p o refl ne).earlier in
        by_cases (side o)
        (λ e. out (record { inside = i; list = e }))
        (λ e.
        let w : Part t R m false o = record { inside = i; list = e } in
        let b = QQ y w (f.between p o q (rival p o q x r refl ne y d (λ a. let n : ⊥ = omega arith in n)) l) in
        let n : ⊥ = omega arith in n)))

    fit_cells : (x u p o q : ℕ) → Part t R m true u → Part t R m true p → Part t R m false o → Part t R m false q
        → does t write x u ≡ true → does t write x o ≡ true → Reaches t u p → Reaches t o q → u ≤ g q → p ≤ g o
    fit_cells x u p o q xu xp xo xq du dw a b l =
        let first : u ≤ g o =
        ⊎_elim
        (λ e. rw e at l)
        (λ e. PQ xu xo (f.between q o u (rival q o u xq e.0 e.1 (positive xo) xu (cell_of x q o u e.1 (positive xo) dw du) (two_lists xu xo)) (says_PQ xu xq l)))
        b in
        ⊎_elim
        (λ e. rw e first)
        (λ e.
        unless xp xo (λ n.
        let z = QP xu xo (f.between p u o (rival p u o xp e.0 e.1 (positive xu) xo (cell_of x p u o e.1 (positive xu) du dw) (λ z. two_lists xu xo (sym z))) n) in
        let y : ⊥ = omega arith in y))
        a

    -- sections: a of P, b of Q
    module _ (a b : ℕ) (x : Part t R m true a) (y : Part t R m false b) (oa : is_outermost t a ≡ true) (ob : is_outermost t b ≡ true) (e : object_of t a ≡ object_of t b) where
      a_first : a ≤ g b → InCone t R (matching t a) × (matching t a ≤ g b)
      a_first l =
          let z = f.sections a b oa ob x.inside y.inside e (says_PQ x y l) in
          (z.0, PQ (release-part t R v m a x z.0) y z.1)

      b_first : g b < a → InCone t R (matching t b) × (g (matching t b) < a)
      b_first l =
          let z = f.sections b a ob oa y.inside x.inside (sym e) (says_QP x y l) in
          (z.0, QP x (release-part t R v m b y z.0) z.1)

      fit_sections : a ≤ g (matching t b) → matching t a ≤ g b
      fit_sections l =
          by_cases (leb a (g b)) (λ z. (a_first (leb-true _ _ z)).1) (λ z. let n = (b_first (leb-false _ _ z)).1 in absurd (omega arith))

      fit_opening : ¬ InCone t R (matching t b) → matching t a ≤ g b
      fit_opening n = by_cases (leb a (g b)) (λ z. (a_first (leb-true _ _ z)).1) (λ z. absurd (n (b_first (leb-false _ _ z)).0))

      fit_endless : ¬ InCone t R (matching t a) → g (matching t b) < a
      fit_endless n = by_cases (leb a (g b)) (λ z. absurd (n (a_first (leb-true _ _ z)).0)) (λ z. (b_first (leb-false _ _ z)).1)

      fit_one_open : ¬ InCone t R (matching t a) → ¬ InCone t R (matching t b) → ⊥
      fit_one_open n o = by_cases (leb a (g b)) (λ z. n (a_first (leb-true _ _ z)).0) (λ z. o (b_first (leb-false _ _ z)).0)

    pub fits_solution : Solution t R m g
    fits_solution = record {
      lower = record {
        rises = up;
        awaiting = λ p q x y a. PQ x y (f.awaiting p q y.inside a);
        observing = λ u q x y r e. PQ x y (f.observing q u y.inside r e (positive x));
        overwriting = fit_overwriting;
        observed_last = λ u p q xu xp xq r e d l.
            PQ xu xq (f.between p q u (rival p q u xp r e (positive xq) xu d (two_lists xu xq)) (says_PP xu xp l));
        cells = fit_cells;
        sections = λ a b x y c d e l. fit_sections a b x y c.outermost d.outermost e l;
        opening = λ a b x y c d e. fit_opening a b x y c.outermost d.outermost e d.unended;
      };
      clear = record {
        endless = λ a b x y c d e. fit_endless a b x y c.outermost d.outermost e c.unended;
        one_open = λ a b x y c d e. fit_one_open a b x y c.outermost d.outermost e c.unended d.unended;
        last_open = λ a b x y c o e l. c.unended (f.sections a b c.outermost o x.inside y.inside e (says_QQ x y l)).0;
      };
      upper = record {
        awaiting = λ p q x y a. QP x y (f.awaiting q p x.inside a);
        observing = λ p q x y r e. QP x y (f.observing p q x.inside r e (positive y));
        start = λ q u y x r o d. unless_not x y (λ l. f.start q u y.inside r o x.inside d l);
        later = λ q o u y xo xu r e d l.
            unless_not xu y (λ n.
            let z = PP xu xo (f.between q o u (rival q o u y r e (positive xo) xu d (λ a. let i : ⊥ = omega arith in i)) n) in
            let i : ⊥ = omega arith in i);
        earlier = λ q o u y xo xu r e d l. QP xo xu (f.between q o u (rival q o u y r e (positive xo) xu d (λ a. two_lists xo xu (sym a))) (says_QQ xu y l));
      };
    }
