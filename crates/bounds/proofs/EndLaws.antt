-- Where the intervals of P end: the pass.
use Prim.Native.Nat.{ℕ, ◌+◌, ◌≤◌, ◌<◌}
use native.Mathlib.Omega.{arith}
use native.Mathlib.Numerals.{add-one}
use mathlib.Core.Path.{◌≡◌, refl, sym, ◌∙◌, ap, subst}
use mathlib.Core.Logic.{◌≢◌}
use mathlib.Core.Bool.{true, cond, not}
use mathlib.Core.List.{List}
use lib.ListN.{length, get_or, set, length-set}
use lib.Seq.{get_or-set_same, get_or-set_other}
use lib.Dec.{eqb}
use borrow.Author.Tests.{eqb-true, eqb-false, eq-eqb, ne_eqb}
use Rattle.model.specs.Trace.{Trace, Valid, thread_of}
use Rattle.model.specs.Lists.{◌∈◌, nearest, passed}
use Rattle.model.proofs.Tests.{by_cases, in_cons, true_both, true-just}
use Rattle.model.proofs.Lists.{get_d_mem, reverse_mem, nearest-none}
use Rattle.model.proofs.Passed.{passed-suc, passed-all, passed_in, passed_below}
use Rattle.stairs.specs.Stairs.{at}
use Rattle.table.specs.declared.judged.Table.{Table}
use Rattle.table.specs.Judged.{events}
use Rattle.table.specs.Links.{began}
use Rattle.table.proofs.BeganFacts.{began-le}
use Rattle.bounds.specs.Bounds.{is_own, end_in, Given, Ended}
use Rattle.bounds.specs.Steps.{with_end}

-- ---- `is_own`

pub true-own : (t : Trace) (m w : ℕ) → w ≢ 0 → thread_of t w ≡ m → is_own t m w ≡ true
unfolding is_own
true-own t m w ne e = true_both (ap not (ne_eqb w 0 ne)) (true-just m (thread_of t w) e)

-- ---- `add_end`

module _ (t : Trace) (m e : ℕ) (v : Valid t e) (w : ℕ) (ew : w ≡ began t e) where
  pub began_few : w ≤ length t
  began_few = let l = began-le t e v.positive in let b = v.bounded in omega arith

  pub end_room : (ends : List ℕ) → length t < length ends → w < length (set ends e 0)
  end_room ends h = let l = began_few in let n = length-set ends e 0 in omega arith

-- ---- `add_ends`

-- the ends so far, of the events that were passed
pub record Ending (s : Table) (m : ℕ) (P Q ends₀ : List ℕ) (i : ℕ) (ends : List ℕ) : Type 0 where
  pub same : length ends ≡ length ends₀
  pub given : Given s m P Q ends
  pub is : (v : ℕ) → v ∈ passed P i → at ends v ≡ nearest (λ k. eqb (began (events s) k) v) (passed P i)

module _ {s : Table} {m : ℕ} {P Q ends₀ : List ℕ} {i : ℕ} {ends : List ℕ} (p : Ending s m P Q ends₀ i ends) where
  pub ending_end : length P ≤ i → Ended s m P Q ends
  unfolding end_in
  ending_end h = let a = passed-all P i h in record { given = p.given; are = record { is = λ v n. rw a at (p.is v (rw a (reverse_mem n))) } }

  module _ (h : i < length P) where
    abbrev e : ℕ
    e = get_or P i 0

    here : e ∈ P
    here = get_d_mem P i h

    pub ending_valid : (k : ℕ) → k ≡ get_or P i 0 → Valid (events s) k
    ending_valid k q = rw q (p.given.parts.moved e here)

    put_room : e < length ends
    put_room = let b = (p.given.parts.moved e here).bounded in let r = p.given.room in omega arith

    with_length : length (with_end (events s) m e ends) ≡ length ends
    unfolding with_end
    with_length =
        by_cases (is_own (events s) m (began (events s) e))
        (λ q. rw q (length-set (set ends e 0) (began (events s) e) e ∙ length-set ends e 0))
        (λ q. rw q (length-set ends e 0))

    -- the entry of v
    entry : (v : ℕ) → v ∈ P → at (with_end (events s) m e ends) v ≡ cond (eqb (began (events s) e) v) e (cond (eqb v e) 0 (at ends v))
    unfolding with_end
    entry v n =
        let first : at (set ends e 0) v ≡ cond (eqb v e) 0 (at ends v) =
        by_cases (eqb v e) (λ q. rw (q, eqb-true v e q, get_or-set_same ends e 0 0 put_room)) (λ q. rw (q, get_or-set_other ends e v 0 0 (eqb-false v e q))) in
        by_cases (eqb (began (events s) e) v)
        (λ q.
        let y : began (events s) e ≡ v = eqb-true _ _ q in
        let x = p.given.parts.moved v n in
        let pos = x.positive in
        let o = true-own (events s) m v (λ z. let u : ⊥ = omega arith in u) (p.given.parts.moved_thread v n) in
        let l = length-set ends e 0 in
        let b = x.bounded in
        let r = p.given.room in
        rw (y, o, eq-eqb v v refl) (get_or-set_same (set ends e 0) v e 0 (omega arith)))
        (λ q.
        let ne : began (events s) e ≢ v = eqb-false _ _ q in
        rw q (by_cases (is_own (events s) m (began (events s) e))
        (λ o. rw o (get_or-set_other (set ends e 0) (began (events s) e) v e 0 (λ z. ne (sym z)) ∙ first))
        (λ o. rw o first)))

    pub ending_more : (k : ℕ) → k ≡ get_or P i 0 → {ends' : List ℕ} → ends' ≡ with_end (events s) m k ends → Ending s m P Q ends₀ (i + 1) ends'
    ending_more k ek q =
        let g = p.given in
        let r = g.room in
        let l = with_length in
        let z = q ∙ ap (λ (x : ℕ). with_end (events s) m x ends) ek in
        rw (z, add-one i) (record {
          same = l ∙ p.same;
          given = record { parts = g.parts; room = omega arith };
          is = λ v n.
              rw (passed-suc P i h) (in_cons (rw (passed-suc P i h) at n)
              (λ a.
              let d : v ≡ e = a in
              let F : ℕ → Type 0 = λ u. at (with_end (events s) m e ends) u ≡ cond (eqb (began (events s) e) u) e (nearest (λ k. eqb (began (events s) k) u) (passed P i)) in
              subst F (sym d) own_entry)
              (λ a. let lt = passed_below P i g.parts.moved_up h v a in
              let ne : v ≢ e = λ b. let u : ⊥ = omega arith in u in
              entry v (passed_in P i v a) ∙ rw (ne_eqb v e ne, p.is v a)));
        })
      where
        own_entry : at (with_end (events s) m e ends) e ≡ cond (eqb (began (events s) e) e) e (nearest (λ k. eqb (began (events s) k) e) (passed P i))
        own_entry =
            let none : nearest (λ k. eqb (began (events s) k) e) (passed P i) ≡ 0 =
            nearest-none (λ k. eqb (began (events s) k) e) (passed P i) (λ k a b.
            let lt = passed_below P i p.given.parts.moved_up h k a in
            let le = began-le (events s) k (p.given.parts.moved k (passed_in P i k a)).positive in
            let d : began (events s) k ≡ e = eqb-true _ _ b in
            let u : ⊥ = omega arith in u) in
            entry e here ∙ rw (eq-eqb e e refl, none)
