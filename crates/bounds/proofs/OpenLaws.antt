-- What a section of Q that has no end needs: the passes.
use Prim.Native.Nat.{ℕ, suc, ◌+◌, ◌≤◌, ◌<◌}
use native.Mathlib.Omega.{arith}
use native.Mathlib.Numerals.{add-one}
use mathlib.Core.Path.{◌≡◌, refl, sym, ◌∙◌, ap}
use mathlib.Core.Logic.{◌≢◌, ◌⊎◌, inl, inr, ⊎_elim}
use mathlib.Core.Bool.{Bool, true, false, ◌&&◌, not}
use mathlib.Core.List.Memᴰ
use mathlib.Core.List.{List, ◌∷◌, reverse}
use lib.ListN.{length, get_or, replicate, length-replicate, get_or-replicate}
use lib.Dec.{eqb, ltb}
use borrow.Author.Tests.{eqb-true, eqb-false, eq-eqb, ne_eqb, ltb-true, ltb-false}
use Rattle.model.specs.Trace.{Trace, Valid, write, acquire, thread_of, kind_of, object_of}
use Rattle.model.specs.Lists.{◌∈◌, nearest, passed, listed, any_in}
use Rattle.model.specs.Good.{max_object}
use Rattle.model.specs.Sections.{is_outermost}
use Rattle.model.specs.Cone.{matching}
use Rattle.model.proofs.Tests.{by_cases, in_cons, clash, both, true_both, either_true, or_right, false_test, object_small}
use Rattle.model.proofs.Lists.{get_d_mem, reverse_mem, mem_reverse, nearest_mem, nearest_passes, any_mem, mem_any, mem_listed, listed_mem}
use Rattle.model.proofs.Passed.{passed-suc, passed-all, passed_below, passed_last}
use Rattle.model.proofs.SectionsExact.{outermost_acquires}
use Rattle.model.proofs.MatchingExact.{matching_valid}
use Rattle.decision.specs.Check.{is_awaited}
use Rattle.decision.specs.Rounds.{is_observed}
use Rattle.decision.specs.Stairs.{is_opening, is_alike, is_within, is_overwriting, is_read_over, is_unended, is_bound}
use Rattle.model.proofs.MatchingExact.{matching_ends}
use Rattle.decision.proofs.IntervalTests.{alike_true, true_alike, true_opening}
use Rattle.stairs.specs.Stairs.{at}
use Rattle.table.specs.declared.judged.Table.{Table}
use Rattle.table.specs.Judged.{events}
use Rattle.table.specs.Links.{began}
use Rattle.table.proofs.BeganFacts.{opening_began, began_opening, began_within, within_began}
use Rattle.bounds.specs.Parts.{Parts}
use Rattle.bounds.specs.Bounds.{end_in, Last, Bound, Given, Ended, Needed, Covers}
use Rattle.bounds.specs.Steps.{FirstTwo, with_section, InSection, Sections, is_open_in, with_open}
use Rattle.bounds.proofs.LastLaws.{last_map, last_two}
use Rattle.bounds.proofs.OverLaws.{raised-length, raised_here, raised-other}

-- ---- `note_sections`

pub record Noting (s : Table) (m : ℕ) (P Q ends : List ℕ) (i : ℕ) (last : List ℕ) : Type 0 where
  pub ended : Ended s m P Q ends
  pub long : max_object < length last
  pub is : (x : ℕ) → x ≤ max_object → Last P (InSection (events s) (passed P i) x) (at last x)

pub noting_start : {s : Table} {m : ℕ} {P Q ends last : List ℕ} → Ended s m P Q ends → last ≡ replicate (max_object + 1) 0 → Noting s m P Q ends 0 last
noting_start e z =
    let l = length-replicate {A = ℕ} (max_object + 1) 0 in
    rw z (record {
      ended = e;
      long = omega arith;
      is = λ x h. record { above = λ p n f. absurd (Memᴰ.not-nil f.passed); from = inl (get_or-replicate (max_object + 1) x 0 0 (omega arith)) };
    })

module _ {s : Table} {m : ℕ} {P Q ends : List ℕ} {i : ℕ} {last : List ℕ} (p : Noting s m P Q ends i last) where
  pub noting_end : length P ≤ i → Sections (events s) P last
  noting_end h =
      let a = passed-all P i h in record {
        is = λ x b.
            last_map
            (λ q n f. record { start = f.start; passed = mem_reverse f.start P (rw a at f.passed); acquires = f.acquires; lock = f.lock; inside = f.inside })
            (λ q n f. record { start = f.start; passed = rw a (reverse_mem f.passed); acquires = f.acquires; lock = f.lock; inside = f.inside })
            (p.is x b);
      }

  module _ (h : i < length P) (v : ℕ) (ev : v ≡ get_or P i 0) where
    abbrev t : Trace
    t = events s

    here : v ∈ P
    here = rw ev (get_d_mem P i h)

    pub noting_valid : Valid (events s) v
    noting_valid = p.ended.given.parts.moved v here

    step : passed P (suc i) ≡ v ∷ passed P i
    step = passed-suc P i h ∙ ap (λ (x : ℕ). x ∷ passed P i) (sym ev)

    -- the events of the section that v begins
    abbrev New : ℕ → ℕ → Type 0
    New x q = (kind_of t v ≡ acquire) × (object_of t v ≡ x) × (began t q ≡ v)

    with_new : (x : ℕ) {y : ℕ} → Last P (λ q. InSection t (passed P i) x q ⊎ New x q) y → Last P (InSection t (passed P (suc i)) x) y
    with_new x l =
        last_map
        (λ q n f.
        ⊎_elim
        (λ z. record { start = z.start; passed = rw step (Memᴰ.tail z.passed); acquires = z.acquires; lock = z.lock; inside = z.inside })
        (λ z. record { start = v; passed = rw step (Memᴰ.head refl); acquires = z.0; lock = z.1; inside = z.2 })
        f)
        (λ q n f.
        in_cons (rw step at f.passed)
        (λ z. let d : f.start ≡ v = z in inr (rw d at f.acquires, rw d at f.lock, f.inside ∙ d))
        (λ z. inl (record { start = f.start; passed = z; acquires = f.acquires; lock = f.lock; inside = f.inside })))
        l

    no_new : (x : ℕ) → x ≤ max_object → ((q : ℕ) → New x q → ⊥) → Last P (InSection t (passed P (suc i)) x) (at last x)
    no_new x b ne = with_new x (last_map (λ q n f. inl f) (λ q n f. ⊎_elim (λ z. z) (λ z. absurd (ne q z)) f) (p.is x b))

    last_new : kind_of t v ≡ acquire → Last P (New (object_of t v)) (at ends v)
    unfolding end_in
    last_new a =
        let test : ℕ → Bool = λ k. eqb (began t k) v in
        rw (p.ended.are.is v here) (record {
          above = λ q n f.
              let y = passed-all P (length P) (omega arith) in
              rw y at (passed_last test P (length P) q p.ended.given.parts.moved_up (rw y (reverse_mem n)) (eq-eqb _ _ f.2));
          from =
              by_cases (eqb (nearest test (reverse P)) 0) (λ z. inl (eqb-true _ _ z)) (λ z.
              let ne = eqb-false _ _ z in
              inr (mem_reverse _ P (nearest_mem test (reverse P) ne), (a, refl, eqb-true _ _ (nearest_passes test (reverse P) ne))));
        })

    is_more : (x : ℕ) → x ≤ max_object → Last P (InSection t (passed P (suc i)) x) (at (with_section t v ends last) x)
    unfolding with_section
    is_more x b =
        by_cases (eqb (kind_of t v) acquire)
        (λ a.
        rw a (by_cases (eqb x (object_of t v))
        (λ d.
        let e : x ≡ object_of t v = eqb-true _ _ d in
        let l = p.long in
        let o = object_small t s.links.good v noting_valid in
        rw (e, raised_here last (object_of t v) (at ends v) (omega arith)) (with_new (object_of t v) (last_two (at last (object_of t v)) (at ends v) (p.is (object_of t v) o) (last_new (eqb-true _ _ a)))))
        (λ d.
        let ne = eqb-false x (object_of t v) d in
        rw (raised-other last (object_of t v) (at ends v) x ne) (no_new x b (λ q f. ne (sym f.1))))))
        (λ a. rw a (no_new x b (λ q f. eqb-false _ _ a f.0)))

    with_length : length (with_section t v ends last) ≡ length last
    unfolding with_section
    with_length = by_cases (eqb (kind_of t v) acquire) (λ o. rw o (raised-length last (object_of t v) (at ends v))) (λ o. rw o)

    pub noting_more : {last' : List ℕ} → last' ≡ with_section (events s) v ends last → Noting s m P Q ends (i + 1) last'
    noting_more q =
        let l = with_length in
        let z = p.long in
        rw (q, add-one i) (record { ended = p.ended; long = omega arith; is = is_more })

-- ---- `unended`

-- an acquire that begins an interval is an outermost one
outer : (t : Trace) (v : ℕ) → kind_of t v ≡ acquire → is_opening t v ≡ true → is_outermost t v ≡ true
unfolding is_opening
outer t v a o = ⊎_elim (λ z. let d : kind_of t v ≡ write = eqb-true _ _ z in absurd (omega arith)) (λ z. z) (either_true (eqb (kind_of t v) write) (is_outermost t v) o)

module _ (t : Trace) (k : ℕ) where
  pub no_section : kind_of t k ≢ acquire → is_outermost t k ≡ false
  unfolding is_outermost
  no_section ne = rw (ne_eqb (kind_of t k) acquire ne)

  pub inner : began t k ≢ k → is_outermost t k ≡ false
  inner ne = false_test (λ o. opening_began t k (true_opening t k (inr o))) ne

  pub outermost : Valid t k → kind_of t k ≡ acquire → began t k ≡ k → is_outermost t k ≡ true
  outermost v a e =
      let p = v.positive in
      outer t k a (rw e at (began_opening t k (λ z. let u : ⊥ = omega arith in u)))

-- ---- what a section of Q needs

module _ (s : Table) {m : ℕ} {P Q tops last : List ℕ} (g : Parts (events s) m P Q) (c : Covers (events s) m Q tops) (sec : Sections (events s) P last) where
  abbrev t₁ : Trace
  t₁ = events s

  -- its end is in Q exactly when it is not beyond its thread's top
  open_is : (k : ℕ) → k ∈ Q → is_open_in t₁ tops k ≡ is_outermost t₁ k && not (listed (matching t₁ k) Q)
  unfolding is_open_in
  open_is k n =
      by_cases (is_outermost t₁ k)
      (λ o.
      rw o (by_cases (eqb (matching t₁ k) 0)
      (λ z.
      let e : matching t₁ k ≡ 0 = eqb-true _ _ z in
      let f : listed (matching t₁ k) Q ≡ false = false_test (λ y. (g.others (matching t₁ k) (listed_mem (matching t₁ k) Q y)).positive) (λ y. let u : ⊥ = omega arith in u) in
      rw (z, f))
      (λ z.
      let ne = eqb-false _ _ z in
      let th = (matching_ends t₁ k ne).thread in
      let cov = c.is (matching t₁ k) (matching_valid t₁ k ne) (λ y. g.others_thread k n (sym th ∙ y)) in
      let same : at tops (thread_of t₁ (matching t₁ k)) ≡ at tops (thread_of t₁ k) = ap (at tops) th in
      rw z (by_cases (ltb (at tops (thread_of t₁ k)) (matching t₁ k))
      (λ y.
      let lt = ltb-true (at tops (thread_of t₁ k)) (matching t₁ k) y in
      let f : listed (matching t₁ k) Q ≡ false = false_test (λ u. cov.0 (listed_mem (matching t₁ k) Q u)) (λ u. let a : matching t₁ k ≤ at tops (thread_of t₁ (matching t₁ k)) = u in let b : ⊥ = omega arith in b) in
      rw (y, f))
      (λ y.
      let le = ltb-false (at tops (thread_of t₁ k)) (matching t₁ k) y in
      rw (y, mem_listed (cov.1 (omega arith))))))))
      (λ o. rw o)

  -- in a section of P on the lock of q
  in_section : (q p : ℕ) → is_outermost t₁ q ≡ true → p ∈ P → (InSection t₁ P (object_of t₁ q) p → any_in (λ v. is_alike t₁ v q && is_within t₁ v p) P ≡ true)
  in_section q p oq n f =
      let x = (g.moved f.start f.passed).positive in
      let e = f.inside in
      let ne : began t₁ p ≢ 0 = λ z. let u : ⊥ = omega arith in u in
      let o : is_opening t₁ f.start ≡ true = rw e at (began_opening t₁ p ne) in
      let out = outer t₁ f.start f.acquires o in
      any_mem _ f.passed (true_both (true_alike t₁ f.start q (f.lock, inr (out, oq))) (rw e at (began_within t₁ s.links.good.well_formed p (g.moved p n) ne)))

  section_in : (q p : ℕ) → is_outermost t₁ q ≡ true → p ∈ P → any_in (λ v. is_alike t₁ v q && is_within t₁ v p) P ≡ true → InSection t₁ P (object_of t₁ q) p
  section_in q p oq n e =
      let y = mem_any _ P e in
      let v = y.0 in
      let b = both (is_alike t₁ v q) (is_within t₁ v p) y.2 in
      let a = alike_true t₁ v q b.0 in
      let o : is_outermost t₁ v ≡ true = ⊎_elim (λ w. let z = w.1 in let u = outermost_acquires t₁ q oq in absurd (omega arith)) (λ w. w.0) a.1 in
      record {
        start = v;
        passed = y.1;
        acquires = outermost_acquires t₁ v o;
        lock = a.0;
        inside = within_began t₁ s.links.good.well_formed v p (g.moved v y.1) (g.moved p n) (true_opening t₁ v (inr o)) b.1;
      }

  -- all lower bounds
  abbrev Three : ℕ → ℕ → Type 0
  Three p k = FirstTwo t₁ P p k ⊎ (is_unended t₁ P Q p k ≡ true)

  three_bound : (p k : ℕ) → Three p k → is_bound t₁ P Q p k ≡ true
  unfolding is_bound
  three_bound p k f =
      ⊎_elim
      (λ a.
      ⊎_elim
      (λ b.
      ⊎_elim
      (λ z. rw z)
      (λ c.
      ⊎_elim
      (λ z. or_right (is_awaited t₁ k p) (rw z))
      (λ z. or_right (is_awaited t₁ k p) (or_right (is_observed t₁ k p) (rw z)))
      c)
      b)
      (λ z. or_right (is_awaited t₁ k p) (or_right (is_observed t₁ k p) (or_right (is_overwriting t₁ P p k) (rw z))))
      a)
      (λ z. or_right (is_awaited t₁ k p) (or_right (is_observed t₁ k p) (or_right (is_overwriting t₁ P p k) (or_right (is_read_over t₁ P p k) z))))
      f

  bound_three : (p k : ℕ) → is_bound t₁ P Q p k ≡ true → Three p k
  unfolding is_bound
  bound_three p k e =
      ⊎_elim
      (λ w. inl (inl (inl w)))
      (λ w.
      ⊎_elim
      (λ a. inl (inl (inr (inl a))))
      (λ a.
      ⊎_elim
      (λ b. inl (inl (inr (inr b))))
      (λ b. ⊎_elim (λ z. inl (inr z)) (λ z. inr z) (either_true (is_read_over t₁ P p k) (is_unended t₁ P Q p k) b))
      (either_true (is_overwriting t₁ P p k) _ a))
      (either_true (is_observed t₁ k p) _ w))
      (either_true (is_awaited t₁ k p) _ e)

  opened_is : (need : List ℕ) (k : ℕ) → k ∈ Q → k < length need → Last P (λ p. FirstTwo t₁ P p k) (at need k) → Last P (λ p. is_bound t₁ P Q p k ≡ true) (at (with_open t₁ tops k last need) k)
  unfolding with_open is_unended
  opened_is need k n room f =
      by_cases (is_open_in t₁ tops k)
      (λ o.
      let a : is_outermost t₁ k && not (listed (matching t₁ k) Q) ≡ true = sym (open_is k n) ∙ o in
      let oq = (both (is_outermost t₁ k) (not (listed (matching t₁ k) Q)) a).0 in
      let x = object_of t₁ k in
      let new : Last P (λ p. is_unended t₁ P Q p k ≡ true) (at last x) =
      last_map (λ p i z. true_both a (in_section k p oq i z)) (λ p i z. section_in k p oq i (both (is_outermost t₁ k && not (listed (matching t₁ k) Q)) _ z).1) (sec.is x (object_small t₁ s.links.good k (g.others k n))) in
      rw (o, raised_here need k (at last x) room) (last_map (λ p i z. three_bound p k z) (λ p i z. bound_three p k z) (last_two (at need k) (at last x) f new)))
      (λ o.
      let a : is_outermost t₁ k && not (listed (matching t₁ k) Q) ≡ false = sym (open_is k n) ∙ o in
      rw o (last_map (λ p i z. three_bound p k (inl z)) (λ p i z. ⊎_elim (λ y. y) (λ y. clash (both (is_outermost t₁ k && not (listed (matching t₁ k) Q)) _ y).0 a) (bound_three p k z)) f))

-- ---- `add_opens`

pub record Opens (s : Table) (m : ℕ) (tops P Q last need₀ : List ℕ) (j : ℕ) (need : List ℕ) : Type 0 where
  pub same : length need ≡ length need₀
  pub given : Given s m P Q need
  pub covers : Covers (events s) m Q tops
  pub sections : Sections (events s) P last
  pub done : (k : ℕ) → k ∈ passed Q j → Last P (λ p. is_bound (events s) P Q p k ≡ true) (at need k)
  pub left : (k : ℕ) → k ∈ Q → (j < length Q → get_or Q j 0 ≤ k) → j < length Q → Last P (λ p. FirstTwo (events s) P p k) (at need k)

pub opens_start : {s : Table} {m : ℕ} {tops P Q last need : List ℕ} → Covers (events s) m Q tops → Sections (events s) P last → Needed s m P Q (FirstTwo (events s) P) need → Opens s m tops P Q last need 0 need
opens_start c x n = record { same = refl; given = n.given; covers = c; sections = x; done = λ k i. absurd (Memᴰ.not-nil i); left = λ k i l h. n.are.is k i }

module _ {s : Table} {m : ℕ} {tops P Q last need₀ : List ℕ} {j : ℕ} {need : List ℕ} (p : Opens s m tops P Q last need₀ j need) where
  pub opens_end : length Q ≤ j → Needed s m P Q (Bound (events s) P Q) need
  opens_end h = record { given = p.given; are = record { is = λ k n. p.done k (rw (passed-all Q j h) (reverse_mem n)) } }

  module _ (h : j < length Q) (k : ℕ) (ek : k ≡ get_or Q j 0) where
    in_Q : k ∈ Q
    in_Q = rw ek (get_d_mem Q j h)

    pub opens_valid : Valid (events s) k
    opens_valid = p.given.parts.others k in_Q

    open_length : length (with_open (events s) tops k last need) ≡ length need
    unfolding with_open
    open_length = by_cases (is_open_in (events s) tops k) (λ o. rw o (raised-length need k (at last (object_of (events s) k)))) (λ o. rw o)

    open_other : (y : ℕ) → y ≢ k → at (with_open (events s) tops k last need) y ≡ at need y
    unfolding with_open
    open_other y ne = by_cases (is_open_in (events s) tops k) (λ o. rw o (raised-other need k (at last (object_of (events s) k)) y ne)) (λ o. rw o)

    pub opens_more : {need' : List ℕ} → need' ≡ with_open (events s) tops k last need → Opens s m tops P Q last need₀ (j + 1) need'
    opens_more q =
        let l = open_length in
        let z = p.given.room in
        let b = opens_valid.bounded in
        let u = p.given.parts.others_up in
        let a : passed Q (suc j) ≡ k ∷ passed Q j = passed-suc Q j h ∙ ap (λ (y : ℕ). y ∷ passed Q j) (sym ek) in
        rw (q, add-one j) (record {
          same = l ∙ p.same;
          given = record { parts = p.given.parts; room = omega arith };
          covers = p.covers;
          sections = p.sections;
          done = λ y n.
              in_cons (rw a at n)
              (λ e. rw e (opened_is s p.given.parts p.covers p.sections need k in_Q (omega arith) (p.left k in_Q (λ h₁. rw ek (omega arith)) h)))
              (λ i.
              let lt = passed_below Q j u h y i in
              let ne : y ≢ k = λ e. let v : ⊥ = omega arith in v in
              rw (open_other y ne) (p.done y i));
          left = λ y n le h₁.
              let lt : k < get_or Q (suc j) 0 = rw ek (passed_below Q (suc j) u h₁ (get_or Q j 0) (rw (passed-suc Q j h) (Memᴰ.head refl))) in
              let up = le h₁ in
              let ne : y ≢ k = λ e. let v : ⊥ = omega arith in v in
              rw (open_other y ne) (p.left y n (λ h₂. omega arith) h);
        })
