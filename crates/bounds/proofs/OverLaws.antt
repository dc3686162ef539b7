-- What a write of Q needs by the reads of P that observed it: the pass.
use Prim.Native.Nat.{ℕ, suc, ◌+◌, ◌≤◌, ◌<◌}
use native.Mathlib.Omega.{arith}
use native.Mathlib.Numerals.{add-one}
use mathlib.Core.Path.{◌≡◌, refl, sym, ◌∙◌, ap}
use mathlib.Core.Logic.{◌≢◌, ◌⊎◌, inl, inr, ⊎_elim}
use mathlib.Core.Bool.{Bool, true, false, cond, ◌&&◌, not}
use mathlib.Core.List.Memᴰ
use mathlib.Core.List.{List, ◌∷◌}
use lib.ListN.{length, get_or, replicate, length-set}
use lib.Seq.{get_or-set_same, get_or-set_other}
use lib.Dec.{eqb, ltb}
use borrow.Author.Tests.{eqb-true, eqb-false, eq-eqb, ne_eqb, ltb-true, lt-ltb}
use Rattle.model.specs.Trace.{Trace, Valid, read, write, kind_of, object_of, does}
use Rattle.model.specs.Lists.{◌∈◌, nearest, passed}
use Rattle.model.specs.Observed.{observed, last_write}
use Rattle.model.specs.Good.{max_object}
use Rattle.model.proofs.Tests.{by_cases, in_cons, clash, both, true_both, object_small}
use Rattle.model.proofs.Lists.{get_d_mem, reverse_mem, mem_reverse, nearest_mem, nearest_passes, any_mem, mem_any}
use Rattle.model.proofs.Passed.{passed-suc, passed-all, passed_in, passed_below, below_passed, passed_last}
use Rattle.decision.specs.Rounds.{is_observed}
use Rattle.decision.specs.Stairs.{is_read_over}
use Rattle.decision.proofs.IntervalTests.{observed-true, true-observed}
use Rattle.stairs.specs.Stairs.{at}
use Rattle.table.specs.declared.judged.Table.{Table}
use Rattle.table.specs.Judged.{events}
use Rattle.table.specs.Entries.{Entries, with_write}
use Rattle.table.proofs.EntryLaws.{entries_new, write_known}
use Rattle.bounds.specs.Bounds.{is_own, Last, Needs, Given, Needed}
use Rattle.bounds.specs.Steps.{raised_to, is_other, with_over, Over, First, FirstTwo}
use Rattle.bounds.proofs.FirstLaws.{own-true}
use Rattle.bounds.proofs.LastLaws.{last_map, last_two}

-- ---- `raise`

module _ (l : List ℕ) (k v : ℕ) where
  pub raised-length : length (raised_to l k v) ≡ length l
  unfolding raised_to
  raised-length = by_cases (ltb (at l k) v) (λ e. rw e (length-set l k v)) (λ e. rw e)

  pub raised_here : k < length l → at (raised_to l k v) k ≡ cond (ltb (at l k) v) v (at l k)
  unfolding raised_to
  raised_here h = by_cases (ltb (at l k) v) (λ e. rw e (get_or-set_same l k v 0 h)) (λ e. rw e)

  pub raised-other : (j : ℕ) → j ≢ k → at (raised_to l k v) j ≡ at l j
  unfolding raised_to
  raised-other j ne = by_cases (ltb (at l k) v) (λ e. rw e (get_or-set_other l k j v 0 ne)) (λ e. rw e)

-- ---- `add_over`

pub record Overs (s : Table) (m : ℕ) (P Q need₀ : List ℕ) (i : ℕ) (last need : List ℕ) : Type 0 where
  pub same : length need ≡ length need₀
  pub given : Given s m P Q need
  pub knows : Entries (λ x. last_write (events s) x (passed P i)) max_object last
  pub is : Needs P Q (λ p k. First (events s) P p k ⊎ Over (events s) (passed P i) p k) need

pub overs_start : {s : Table} {m : ℕ} {P Q need : List ℕ} → Needed s m P Q (First (events s) P) need → Overs s m P Q need 0 (replicate (max_object + 1) 0) need
overs_start n = record {
  same = refl;
  given = n.given;
  knows = entries_new _ max_object (λ x. refl);
  is = record { is = λ k i. last_map (λ p j f. inl f) (λ p j f. ⊎_elim (λ z. z) (λ z. absurd (Memᴰ.not-nil z.1)) f) (n.are.is k i) };
}

module _ {s : Table} {m : ℕ} {P Q need₀ : List ℕ} {i : ℕ} {last need : List ℕ} (p : Overs s m P Q need₀ i last need) where
  pub overs_end : length P ≤ i → Needed s m P Q (FirstTwo (events s) P) need
  unfolding is_read_over
  overs_end h = record {
    given = p.given;
    are = record {
      is = λ k n.
          let a = passed-all P i h in
          last_map
          (λ q j f. ⊎_elim inl (λ z. inr (any_mem _ (mem_reverse z.0 P (rw a at z.1)) (true_both z.2 (true_both z.3 (lt-ltb q z.0 z.4))))) f)
          (λ q j f.
          ⊎_elim inl
          (λ z.
          let y = mem_any _ P z in
          let b = both (is_observed (events s) y.0 k) _ y.2 in
          let c = both (does (events s) write (object_of (events s) y.0) q) (ltb q y.0) b.1 in
          inr (y.0, rw a (reverse_mem y.1), b.0, c.0, ltb-true q y.0 c.1))
          f)
          (p.is.is k n);
    };
  }

  module _ (h : i < length P) (e : ℕ) (ee : e ≡ get_or P i 0) where
    abbrev t : Trace
    t = events s

    here : e ∈ P
    here = rw ee (get_d_mem P i h)

    pub overs_valid : Valid (events s) e
    overs_valid = p.given.parts.moved e here

    step : passed P (suc i) ≡ e ∷ passed P i
    step = passed-suc P i h ∙ ap (λ (x : ℕ). x ∷ passed P i) (sym ee)

    knows_more : Entries (λ x. last_write t x (e ∷ passed P i)) max_object (with_write t e last)
    knows_more = write_known t e (passed P i) s.links.good overs_valid p.knows

    -- what e adds for the write k of Q
    abbrev New : ℕ → ℕ → Type 0
    New k q = (is_observed t e k ≡ true) × (does t write (object_of t e) q ≡ true) × (q < e)

    with_new : (k : ℕ) {x : ℕ} → Last P (λ q. (First t P q k ⊎ Over t (passed P i) q k) ⊎ New k q) x → Last P (λ q. First t P q k ⊎ Over t (passed P (suc i)) q k) x
    with_new k l =
        last_map
        (λ q j f.
        ⊎_elim
        (λ z. ⊎_elim inl (λ y. inr (y.0, rw step (Memᴰ.tail y.1), y.2, y.3, y.4)) z)
        (λ z. inr (e, rw step (Memᴰ.head refl), z.0, z.1, z.2))
        f)
        (λ q j f.
        ⊎_elim
        (λ z. inl (inl z))
        (λ z. in_cons (rw step at z.1) (λ y. let d : z.0 ≡ e = y in inr (rw d at z.2, rw d at z.3, rw d at z.4)) (λ y. inl (inr (z.0, y, z.2, z.3, z.4))))
        f)
        l

    -- no more where e did not observe k
    no_new : (k : ℕ) → k ∈ Q → (is_observed t e k ≡ true → ⊥) → Last P (λ q. First t P q k ⊎ Over t (passed P (suc i)) q k) (at need k)
    no_new k n ne = with_new k (last_map (λ q j f. inl f) (λ q j f. ⊎_elim (λ z. z) (λ z. absurd (ne z.0)) f) (p.is.is k n))

    -- the last write of P before e
    last_new : (k : ℕ) → is_observed t e k ≡ true → Last P (New k) (at last (object_of t e))
    last_new k o =
        let x = object_of t e in
        let test : ℕ → Bool = λ q. does t write x q in
        rw (p.knows.is x (object_small t s.links.good e overs_valid)) (record {
          above = λ q j f. passed_last test P i q p.given.parts.moved_up (below_passed P i p.given.parts.moved_up h q j (rw ee at f.2)) f.1;
          from =
              by_cases (eqb (nearest test (passed P i)) 0) (λ z. inl (eqb-true _ _ z)) (λ z.
              let ne = eqb-false _ _ z in
              let m₁ = nearest_mem test (passed P i) ne in
              let lt = passed_below P i p.given.parts.moved_up h (nearest test (passed P i)) m₁ in
              inr (passed_in P i _ m₁, (o, nearest_passes test (passed P i) ne, omega arith)));
        })

    is_more : (k : ℕ) → k ∈ Q → Last P (λ q. First t P q k ⊎ Over t (passed P (suc i)) q k) (at (with_over t m e last need) k)
    unfolding with_over is_other
    is_more k n =
        let w = observed t e in
        by_cases (eqb (kind_of t e) read && is_other t m w)
        (λ o.
        let r : kind_of t e ≡ read = eqb-true _ _ (both (eqb (kind_of t e) read) (is_other t m w) o).0 in
        rw o (by_cases (eqb k w)
        (λ d.
        let ew : k ≡ w = eqb-true _ _ d in
        let oe = true-observed t e k r (sym ew) in
        let b = (p.given.parts.others k n).bounded in
        let room = p.given.room in
        rw (← ew, raised_here need k (at last (object_of t e)) (omega arith)) (with_new k (last_two (at need k) (at last (object_of t e)) (p.is.is k n) (last_new k oe))))
        (λ d.
        let ne : k ≢ w = eqb-false _ _ d in
        rw (raised-other need w (at last (object_of t e)) k ne) (no_new k n (λ z. let a = observed-true t e k z in ne (sym a.1))))))
        (λ o.
        rw o (no_new k n (λ z.
        let a = observed-true t e k z in
        let ew : w ≡ k = a.1 in
        let v = (p.given.parts.others k n).positive in
        let nk : k ≢ 0 = λ y. let u : ⊥ = omega arith in u in
        clash (true_both (eq-eqb _ _ a.0) (true_both (ap not (ne_eqb w 0 (λ y. nk (sym ew ∙ y)))) (ap not (not_own k n w ew)))) o)))
      where
        not_own : (k : ℕ) → k ∈ Q → (w : ℕ) → w ≡ k → is_own (events s) m w ≡ false
        not_own k n w q = by_cases (is_own (events s) m w) (λ z. absurd (p.given.parts.others_thread k n (rw q at (own-true (events s) m w z).1))) (λ z. z)

    with_length : length (with_over t m e last need) ≡ length need
    unfolding with_over
    with_length = by_cases (eqb (kind_of t e) read && is_other t m (observed t e)) (λ o. rw o (raised-length need (observed t e) (at last (object_of t e)))) (λ o. rw o)

    pub overs_more : {need' last' : List ℕ} → need' ≡ with_over (events s) m e last need → last' ≡ with_write (events s) e last → Overs s m P Q need₀ (i + 1) last' need'
    overs_more q r =
        let l = with_length in
        let z = p.given.room in
        rw (q, r, add-one i) (record {
          same = l ∙ p.same;
          given = record { parts = p.given.parts; room = omega arith };
          knows = rw step knows_more;
          is = record { is = is_more };
        })
