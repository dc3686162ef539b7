-- The ways through the two lists.
use Prim.Native.Nat.{ℕ, zero, suc, ◌+◌, ◌-◌, ◌≤◌, ◌<◌, max}
use native.Mathlib.Omega.{arith}
use native.Mathlib.Numerals.{add-one}
use mathlib.Core.Path.{◌≡◌, refl, sym, ◌∙◌, ap}
use mathlib.Core.Logic.{◌≢◌}
use mathlib.Core.Bool.{Bool, true, false, ◌&&◌}
use mathlib.Core.List.{List, [], ◌∷◌, ◌++◌, reverse, reverse_aux, reverse-cons}
use lib.ListN.{length, get_or, set, take, drop, length-set, drop_of_length-le}
use lib.Seq.{take-suc-set, drop-cons, get_or-set_same, drop-set-lt}
use lib.Dec.{eqb, leb}
use mir.Syntax.{w16, w64}
use mir.Val.{Fits}
use borrow.Author.Tests.{eqb-true, eqb-false, leb-true, le-leb}
use Rattle.model.specs.Trace.{Trace, Valid, thread_of}
use Rattle.model.specs.Lists.{up_to, before, keep, only, just, all_but}
use Rattle.model.specs.Good.{Good, max_thread}
use Rattle.model.proofs.Tests.{by_cases, both, true_both, false_test, just-true, true-just}
use Rattle.model.proofs.Lists.{keep-reverse}
use Rattle.table.specs.Links.{previous}
use Rattle.table.specs.declared.judged.Table.{Table}
use Rattle.table.specs.Judged.{events}
use Rattle.table.proofs.LinkFacts.{previous_less, previous_earlier, previous_last}
use Rattle.cone.specs.Split.{is_under, under, Splits, Moved, Others, is_of, Putting, Highest}

-- ---- the events that pass a test

keep_both : (p q : ℕ → Bool) (l : List ℕ) → keep p (keep q l) ≡ keep (λ k. p k && q k) l
keep_both p q [] = refl
keep_both p q (k ∷ l) =
    let ih = keep_both p q l in
    by_cases (q k)
    (λ e. by_cases (p k) (λ d. rw (e, d) (ap (λ (z : List ℕ). k ∷ z) ih)) (λ d. rw (e, d) ih))
    (λ e. by_cases (p k) (λ d. rw (e, d) ih) (λ d. rw (e, d) ih))

-- where none passes after event a
keep_gap : (p : ℕ → Bool) (a b : ℕ) → a ≤ b → ((j : ℕ) → a < j → j ≤ b → p j ≡ false) → keep p (up_to b) ≡ keep p (up_to a)
keep_gap p a zero l f = let z : a ≡ 0 = omega arith in rw z
keep_gap p a (suc b) l f =
    by_cases (eqb a (suc b))
    (λ q. let e = eqb-true a (suc b) q in rw e)
    (λ q. let ne = eqb-false a (suc b) q in rw (f (suc b) (omega arith) (omega arith)) (keep_gap p a b (omega arith) (λ j u h. f j u (omega arith))))

-- one event more
next_one : (p : ℕ → Bool) (k : ℕ) → 1 ≤ k → p k ≡ true → reverse (keep p (before (k + 1))) ≡ reverse (keep p (before k)) ++ (k ∷ [])
next_one p zero h e = absurd (omega arith)
next_one p (suc k) h e = rw (add-one (suc k), e) (reverse-cons (suc k) (keep p (up_to k)))

next-not : (p : ℕ → Bool) (k : ℕ) → 1 ≤ k → p k ≡ false → reverse (keep p (before (k + 1))) ≡ reverse (keep p (before k))
next-not p zero h e = absurd (omega arith)
next-not p (suc k) h e = rw (add-one (suc k), e)

module _ (t : Trace) (s : ℕ → Bool) (tops : List ℕ) where
  pub only_under : only t s (under t tops) ≡ reverse (keep (is_of t s tops) (up_to (length t)))
  unfolding under is_of
  only_under =
      let l = up_to (length t) in
      keep-reverse (λ k. s (thread_of t k)) (keep (is_under t tops) l) ∙ ap reverse (keep_both (λ k. s (thread_of t k)) (is_under t tops) l)

  of_true : (k : ℕ) → s (thread_of t k) ≡ true → k ≤ get_or tops (thread_of t k) 0 → is_of t s tops k ≡ true
  unfolding is_of is_under
  of_true k e l = true_both e (le-leb _ _ l)

  true_of : (k : ℕ) → is_of t s tops k ≡ true → (s (thread_of t k) ≡ true) × (k ≤ get_or tops (thread_of t k) 0)
  unfolding is_of is_under
  true_of k e = let x = both (s (thread_of t k)) (leb k (get_or tops (thread_of t k) 0)) e in (x.0, leb-true _ _ x.1)

-- ---- `moved`

-- from event k down thread m's are left; those above it are the places of out from r on
pub record Moving (t : Trace) (m : ℕ) (tops : List ℕ) (k r : ℕ) (out : List ℕ) : Type 0 where
  pub few : k ≤ r
  pub low : r ≤ length out
  pub top : k ≤ get_or tops m 0
  pub valid : k ≢ 0 → Valid t k
  pub thread : k ≢ 0 → thread_of t k ≡ m
  pub is : reverse (keep (is_of t (just m) tops) (up_to (length t))) ≡ reverse_aux (keep (is_of t (just m) tops) (up_to k)) (drop r out)

module _ (t : Trace) (m : ℕ) (tops : List ℕ) where
  -- no event of thread m is above its top
  above_none : (j : ℕ) → get_or tops m 0 < j → is_of t (just m) tops j ≡ false
  above_none j l =
      false_test (true_of t (just m) tops j) (λ x.
      let e : thread_of t j ≡ m = just-true m (thread_of t j) x.0 in
      let y : j ≤ get_or tops m 0 = rw e at x.1 in
      let z : ⊥ = omega arith in z)

  -- nor between an event of it and the one before
  between_none : (k j : ℕ) → thread_of t k ≡ m → previous t k < j → j < k → is_of t (just m) tops j ≡ false
  between_none k j ek u l =
      false_test (true_of t (just m) tops j) (λ x.
      let e : thread_of t j ≡ m = just-true m (thread_of t j) x.0 in
      let y = previous_last t j k (record { first = omega arith; less = l; thread = e ∙ sym ek }) in
      let z : ⊥ = omega arith in z)

module _ {s : Table} {tops : List ℕ} {m : ℕ} {out : List ℕ} (g : Splits s tops m out) where
  pub moved-start : (k r : ℕ) → k ≡ get_or tops m 0 → r ≡ length out → Moving (events s) m tops k r out
  moved-start k r ek er =
      let t = events s in
      let room = g.room in
      let v : k ≢ 0 → Valid t k = λ ne. rw ek (g.topped.valid m (rw ek at ne)) in
      let n : k ≤ length t = by_cases (eqb k 0) (λ q. let z = eqb-true k 0 q in omega arith) (λ q. (v (eqb-false k 0 q)).bounded) in
      record {
        few = omega arith;
        low = omega arith;
        top = omega arith;
        valid = v;
        thread = λ ne. rw ek (g.topped.thread m (rw ek at ne));
        is = rw (drop_of_length-le out {i = r} (omega arith)) (ap reverse (keep_gap (is_of t (just m) tops) k (length t) n (λ j u l. above_none t m tops j (omega arith))));
      }

-- event k is the first that passes, and q the next
step : (p : ℕ → Bool) (l : List ℕ) (q k : ℕ) → p k ≡ true → q < k → ((j : ℕ) → q < j → j < k → p j ≡ false) → reverse_aux (keep p (up_to k)) l ≡ reverse_aux (keep p (up_to q)) (k ∷ l)
step p l q zero e h f = absurd (omega arith)
step p l q (suc k) e h f = rw (e, keep_gap p q k (omega arith) (λ j u v. f j u (omega arith)))

module _ {t : Trace} {m : ℕ} {tops : List ℕ} {k r : ℕ} {out : List ℕ} (p : Moving t m tops k r out) where
  module _ (h : 0 < k) where
    pub moved_valid : Valid t k
    moved_valid = p.valid (omega arith)

    pub moved_fits : Good t → Fits w16 k
    moved_fits g = let a = moved_valid.bounded in let b = g.size in record { fits = omega arith }

    pub moved-room : r - 1 < length out
    moved-room = let a = p.few in let b = p.low in omega arith

    pub moved_less : (q : ℕ) → q ≡ previous t k → q < k
    moved_less q e = let z = previous_less t k h in omega arith

    pub moved_more : (q : ℕ) → q ≡ previous t k → Moving t m tops q (r - 1) (set out (r - 1) k)
    moved_more q e =
        let z = moved_less q e in
        let few = p.few in
        let low = p.low in
        let top = p.top in
        let v = moved_valid in
        let bound = v.bounded in
        let inside = moved-room in
        let et = p.thread (omega arith) in
        let test : is_of t (just m) tops k ≡ true = of_true t (just m) tops k (true-just m (thread_of t k) et) (rw et top) in
        let r1 : suc (r - 1) ≡ r = omega arith in
        let at : drop (r - 1) (set out (r - 1) k) ≡ k ∷ drop r out =
        drop-cons (set out (r - 1) k) (r - 1) 0 (rw (length-set out (r - 1) k) inside)
        ∙ rw (get_or-set_same out (r - 1) k 0 inside, drop-set-lt (suc (r - 1)) out (r - 1) k (omega arith), r1) in
        record {
          few = omega arith;
          low = rw (length-set out (r - 1) k) (omega arith);
          top = omega arith;
          valid = λ ne. record { positive = omega arith; bounded = omega arith };
          thread = λ ne. rw e ((previous_earlier t k (rw e at ne)).thread ∙ et);
          is = p.is ∙ rw at (step (is_of t (just m) tops) (drop r out) q k test z (λ j u l. between_none t m tops k j et (omega arith) l));
        }

  pub moved_end : k ≤ 0 → Moved t m tops r out
  moved_end h = let z : k ≡ 0 = omega arith in record { low = p.low; is = sym (only_under t (just m) tops ∙ p.is ∙ rw z) }

-- ---- an event more of the others

module _ {t : Trace} {m : ℕ} {tops : List ℕ} {k r : ℕ} {out : List ℕ} (p : Putting t m tops k r out) (v : Valid t k) where
  pub put_room : r < length out
  put_room = let a = v.bounded in let b = p.few in let c = p.room in omega arith

  pub put_fits : Good t → Fits w16 k
  put_fits g = let a = v.bounded in let b = g.size in record { fits = omega arith }

  module _ (b : Bool) (eb : b ≡ is_of t (all_but m) tops k) where
    pub put_not : b ≡ false → Putting t m tops (k + 1) r out
    put_not e =
        let a = v.bounded in
        let c = p.few in
        record { room = p.room; low = omega arith; few = omega arith; is = p.is ∙ sym (next-not (is_of t (all_but m) tops) k v.positive (sym eb ∙ e)) }

    pub put_one : b ≡ true → Putting t m tops (k + 1) (r + 1) (set out r k)
    put_one e =
        let a = v.bounded in
        let c = p.few in
        let room = p.room in
        let d : take (r + 1) (set out r k) ≡ take r out ++ (k ∷ []) = rw (add-one r) (take-suc-set out r k put_room) in
        record {
          room = rw (length-set out r k) room;
          low = omega arith;
          few = omega arith;
          is = d ∙ ap (λ (l : List ℕ). l ++ (k ∷ [])) p.is ∙ sym (next_one (is_of t (all_but m) tops) k v.positive (sym eb ∙ e));
        }

-- ---- `highest`

pub highest_start : (tops : List ℕ) → Highest tops 0 0
highest_start tops = record { above = λ c l. absurd (omega arith); least = λ b f. omega arith }

module _ {tops : List ℕ} {n k : ℕ} (p : Highest tops n k) where
  pub highest_more : (x h : ℕ) → x ≡ get_or tops n 0 → h ≡ max k x → Highest tops (n + 1) h
  highest_more x h ex eh = record {
    above = λ c l.
        by_cases (eqb c n)
        (λ e. let z = eqb-true c n e in rw z (omega arith))
        (λ e. let ne = eqb-false c n e in let y = p.above c (omega arith) in omega arith);
    least = λ b f. let y = p.least b f in let z = f n in omega arith;
  }

  pub highest_end : max_thread + 1 ≤ n → Highest tops (max_thread + 1) k
  highest_end h = record { above = λ c l. p.above c (omega arith); least = p.least }

-- ---- `others`

pub others_start : {s : Table} {tops : List ℕ} {m : ℕ} {out : List ℕ} → Splits s tops m out → Putting (events s) m tops 1 0 out
others_start g = record { room = g.room; low = omega arith; few = omega arith; is = refl }

module _ {s : Table} {tops : List ℕ} {m : ℕ} {start : List ℕ} (g : Splits s tops m start) {n : ℕ} (h : Highest tops (max_thread + 1) n) where
  low : n ≤ length (events s)
  low = h.least (length (events s)) (λ c. by_cases (eqb (get_or tops c 0) 0) (λ q. let z : get_or tops c 0 ≡ 0 = eqb-true _ _ q in omega arith) (λ q. (g.topped.valid c (eqb-false _ _ q)).bounded))

  pub others_fit : Fits w64 (n + 1)
  others_fit = let a = low in let b = s.links.good.size in record { fits = omega arith }

  module _ {k r : ℕ} {out : List ℕ} (p : Putting (events s) m tops k r out) where
    pub others_valid : k ≤ n → Valid (events s) k
    others_valid l = let a = p.few in let b = low in record { positive = omega arith; bounded = omega arith }

    pub others_end : n < k → k ≤ n + 1 → Others (events s) m tops r out
    others_end l u =
        let t = events s in
        let few = p.few in
        let b = low in
        let e : k ≡ suc n = omega arith in
        let gap : keep (is_of t (all_but m) tops) (up_to (length t)) ≡ keep (is_of t (all_but m) tops) (up_to n) =
        keep_gap (is_of t (all_but m) tops) n (length t) b (λ j x y.
        false_test (true_of t (all_but m) tops j) (λ z.
        let v = z.1 in
        let c = s.links.good.thread_limit j (record { positive = omega arith; bounded = y }) in
        let w = h.above (thread_of t j) (omega arith) in
        let o : ⊥ = omega arith in o)) in
        record {
          few = omega arith;
          is = p.is ∙ ap (λ (j : ℕ). reverse (keep (is_of t (all_but m) tops) (before j))) e ∙ sym (only_under t (all_but m) tops ∙ ap reverse gap);
        }
