-- The order of a solution fits the rules.
use Prim.Native.Nat.{ℕ, ◌≤◌, ◌<◌}
use native.Mathlib.Omega.{arith}
use mathlib.Core.Path.{◌≡◌, refl, sym, ◌∙◌, ap}
use mathlib.Core.Logic.{◌≢◌, inl, inr, ⊎_elim}
use mathlib.Core.Bool.{Bool, true, false}
use mathlib.Core.List.{List}
use lib.Dec.{leb}
use borrow.Author.Tests.{leb-true, leb-false}
use Rattle.model.specs.Trace.{Trace, Valid, read, write, thread_of, kind_of, object_of, does}
use Rattle.model.specs.Lists.{◌∈◌, just}
use Rattle.model.specs.Observed.{observed}
use Rattle.model.specs.Good.{WellFormed}
use Rattle.model.specs.Awaits.{Awaits}
use Rattle.model.specs.Sections.{is_outermost}
use Rattle.model.specs.Cone.{InCone, brought, precedes, observes, matching}
use Rattle.model.proofs.Tests.{by_cases, clash, just-true}
use Rattle.model.proofs.AwaitsExact.{awaits_before}
use Rattle.model.proofs.MatchingExact.{matching_ends}
use Rattle.model.proofs.ConeEvents.{cone_valid}
use Rattle.decision.proofs.Holds.{sections_apart}
use Rattle.decision.proofs.Solutions.{Closed, Open, Rival, Part, Reaches, Solution, Stands}
use Rattle.decision.proofs.ConeParts.{cone-positive, the_last, its_cell, start-before, rival_apart, section, ends, release-part}
use Rattle.decision.proofs.Fits.{Fits}
use Rattle.decision.proofs.Climbs.{ahead_by, by_ahead}

module _ (t : Trace) (R : List ℕ) (m : ℕ) (v : (r : ℕ) → r ∈ R → Valid t r) (w : WellFormed t) (g : ℕ → ℕ) where
  abbrev side : ℕ → Bool
  side k = just m (thread_of t k)

  abbrev F : ℕ → ℕ → Type 0
  F = Stands t m g

  in_part : {b : Bool} (k : ℕ) → InCone t R k → side k ≡ b → Part t R m b k
  in_part k x e = record { inside = x; list = e }

  -- no section of P follows one of P without an end
  moved_last_open : (a b : ℕ) → Part t R m true a → Part t R m true b → Open t R a → is_outermost t b ≡ true → object_of t a ≡ object_of t b → ¬ (a < b)
  moved_last_open a b x y o ob same l =
      let z = sections_apart t w a b (cone_valid t R v x.inside) (cone_valid t R v y.inside) o.outermost ob same l in
      let q = matching_ends t a z.0 in
      let th : thread_of t (matching t a) ≡ thread_of t b = q.thread ∙ just-true m _ x.list ∙ sym (just-true m _ y.list) in
      let lt = q.later in
      o.unended (brought y.inside (precedes (inl (record { first = omega arith; less = z.1; thread = th }))))

  -- ---- a solution's order fits

  module _ (s : Solution t R m g) where
    sol_awaiting : (j k : ℕ) → InCone t R k → Awaits t k j → F j k
    sol_awaiting j k x a =
        let y : InCone t R j = brought x (precedes (inr a)) in
        ahead_by g (side j) (side k) j k
        (λ d. awaits_before t w k j (cone_valid t R v x) a)
        (λ c d. s.lower.awaiting j k (in_part j y c) (in_part k x d) a)
        (λ c d. s.upper.awaiting k j (in_part k x d) (in_part j y c) a)

    sol_observing : (k o : ℕ) → InCone t R k → kind_of t k ≡ read → observed t k ≡ o → o ≢ 0 → F o k
    sol_observing k o x r e ne =
        let y : InCone t R o = brought x (observes r e ne) in
        ahead_by g (side o) (side k) o k
        (λ d. (the_last t R v k o e ne).earlier)
        (λ a b. s.lower.observing o k (in_part o y a) (in_part k x b) r e)
        (λ a b. s.upper.observing k o (in_part k x b) (in_part o y a) r e)

    sol_start : (k u : ℕ) → InCone t R k → kind_of t k ≡ read → observed t k ≡ 0 → InCone t R u → does t write (object_of t k) u ≡ true → ¬ F u k
    sol_start k u x r o y e q =
        let lt = start-before t R v k u r o y e in
        by_ahead g (side u) (side k) u k q
        (λ d l. let n : ⊥ = omega arith in n)
        (λ a b l. let z = s.upper.start k u (in_part k x b) (in_part u y a) r o e in let n : ⊥ = omega arith in n)
        (λ a b l.
        let z = s.lower.overwriting k u (in_part k x b) (in_part u y a) r (λ p. cone-positive t R v p.inside o) e lt in
        let n : ⊥ = omega arith in n)

    module _ (k o u : ℕ) (r : Rival t R k o u) where
      pk : {b : Bool} → side k ≡ b → Part t R m b k
      pk e = in_part k r.reader e

      po : {b : Bool} → side o ≡ b → Part t R m b o
      po e = in_part o (brought r.reader (observes r.reads r.observes r.written)) e

      pu : {b : Bool} → side u ≡ b → Part t R m b u
      pu e = in_part u r.begun e

      writes_o : does t write (object_of t k) o ≡ true
      writes_o = its_cell t R v k o r.observes r.written

      before_k : o < k
      before_k = (the_last t R v k o r.observes r.written).earlier

      reaches_k : Reaches t o k
      reaches_k = inr (r.reads, r.observes)

      one_list : side u ≡ side o → F u k → u < o
      one_list e q =
          ⊎_elim (λ l. l)
          (λ l.
          let lt = before_k in
          by_ahead g (side u) (side k) u k q
          (λ d n. absurd (omega arith))
          (λ a b n. let z = s.upper.later k o u (pk b) (po (sym e ∙ a)) (pu a) r.reads r.observes r.writes (omega arith) in absurd (omega arith))
          (λ a b n.
          let out : ¬ Part t R m true (observed t k) = λ p. clash (rw r.observes at p.list) (sym e ∙ a) in
          let z = s.lower.overwriting k u (pk b) (pu a) r.reads out r.writes l in
          absurd (omega arith)))
          (rival_apart t R v k o u r)

      moved_other : side u ≡ true → side o ≡ false → F u k → u ≤ g o
      moved_other a b q =
          by_ahead g (side u) (side k) u k q
          (λ d l. s.lower.observed_last u k o (pu a) (pk (sym d ∙ a)) (po b) r.reads r.observes r.writes l)
          (λ c d l. s.lower.cells (object_of t k) u u o k (pu a) (pu a) (po b) (pk d) r.writes writes_o (inl refl) reaches_k l)
          (λ c d l. clash a c)

      other-moved : side u ≡ false → side o ≡ true → F u k → g u < o
      other-moved a b q =
          by_ahead g (side u) (side k) u k q
          (λ d l. s.upper.earlier k o u (pk (sym d ∙ a)) (po b) (pu a) r.reads r.observes r.writes l)
          (λ c d l. clash c a)
          (λ c d l.
          by_cases (leb o (g u))
          (λ z. let y = s.lower.cells (object_of t k) o k u u (po b) (pk d) (pu a) (pu a) writes_o r.writes reaches_k (inl refl) (leb-true o (g u) z) in absurd (omega arith))
          (λ z. leb-false o (g u) z))

      sol_between : F u k → F u o
      sol_between q = ahead_by g (side u) (side o) u o (λ e. one_list e q) (λ a b. moved_other a b q) (λ a b. other-moved a b q)

    module _ (a b : ℕ) (oa : is_outermost t a ≡ true) (ob : is_outermost t b ≡ true) (x : InCone t R a) (y : InCone t R b) (same : object_of t a ≡ object_of t b) where
      pa : {c : Bool} → side a ≡ c → Part t R m c a
      pa e = in_part a x e

      pb : {c : Bool} → side b ≡ c → Part t R m c b
      pb e = in_part b y e

      abbrev Ended : Type 0
      Ended = InCone t R (matching t a) × F (matching t a) b

      side-r : InCone t R (matching t a) → side (matching t a) ≡ side a
      side-r i = ap (just m) (ends t R v a i).thread

      sec_same : side a ≡ side b → a < b → Ended
      sec_same e l =
          let z = sections_apart t w a b (cone_valid t R v x) (cone_valid t R v y) oa ob same l in
          let i : InCone t R (matching t a) =
          ⊎_elim
          (λ c. c.ended)
          (λ o.
          by_cases (side b)
          (λ d. absurd (moved_last_open a b (pa (e ∙ d)) (pb d) o ob same l))
          (λ d. absurd (s.clear.last_open a b (pa (e ∙ d)) (pb d) o ob same l)))
          (section t R v a oa x) in
          (i, ahead_by g (side (matching t a)) (side b) (matching t a) b (λ d. z.1) (λ c d. clash (sym e ∙ sym (side-r i) ∙ c) d) (λ c d. clash d (sym e ∙ sym (side-r i) ∙ c)))

      sec_moved : side a ≡ true → side b ≡ false → a ≤ g b → Ended
      sec_moved c d l =
          let up : Closed t R b → g b ≤ g (matching t b) =
          λ k. s.lower.rises b (matching t b) (pb d) (release-part t R v m b (pb d) k.ended) (ends t R v b k.ended).later in
          ⊎_elim
          (λ i.
          let p = side-r i.ended ∙ c in
          let le : matching t a ≤ g b =
          ⊎_elim
          (λ k. let z = up k in s.lower.sections a b (pa c) (pb d) i k same (omega arith))
          (λ o. s.lower.opening a b (pa c) (pb d) i o same)
          (section t R v b ob y) in
          (i.ended, ahead_by g (side (matching t a)) (side b) (matching t a) b (λ e. clash (sym e ∙ p) d) (λ e f. le) (λ e f. clash p e)))
          (λ i.
          absurd (⊎_elim
          (λ k. let z = up k in let u = s.clear.endless a b (pa c) (pb d) i k same in let n : ⊥ = omega arith in n)
          (λ o. s.clear.one_open a b (pa c) (pb d) i o same)
          (section t R v b ob y)))
          (section t R v a oa x)

      sec_other : side a ≡ false → side b ≡ true → g a < b → Ended
      sec_other c d l =
          ⊎_elim
          (λ i.
          let p = side-r i.ended ∙ c in
          let lt : g (matching t a) < b =
          ⊎_elim
          (λ k.
          by_cases (leb b (g (matching t a)))
          (λ z.
          let le = s.lower.sections b a (pb d) (pa c) k i (sym same) (leb-true _ _ z) in
          let n = (ends t R v b k.ended).later in
          absurd (omega arith))
          (λ z. leb-false _ _ z))
          (λ o. s.clear.endless b a (pb d) (pa c) o i (sym same))
          (section t R v b ob y) in
          (i.ended, ahead_by g (side (matching t a)) (side b) (matching t a) b (λ e. clash (e ∙ d) p) (λ e f. clash e p) (λ e f. lt)))
          (λ i.
          absurd (⊎_elim
          (λ k.
          let le = s.lower.opening b a (pb d) (pa c) k i (sym same) in
          let n = (ends t R v b k.ended).later in
          let z : ⊥ = omega arith in z)
          (λ o. s.clear.one_open b a (pb d) (pa c) o i (sym same))
          (section t R v b ob y)))
          (section t R v a oa x)

      sol_sections : F a b → Ended
      sol_sections q = by_ahead g (side a) (side b) a b q sec_same sec_moved sec_other

    pub solution_fits : Fits t R (Stands t m g)
    solution_fits = record { awaiting = sol_awaiting; observing = sol_observing; start = sol_start; between = sol_between; sections = sol_sections }
