-- The tables say the rules: the least staircase by them is the one that the decision is made by.
use Prim.Native.Nat.{ℕ, suc, ◌+◌, ◌≤◌, ◌<◌}
use native.Mathlib.Omega.{arith}
use mathlib.Core.Path.{◌≡◌, refl, sym, ◌∙◌, ap}
use mathlib.Core.Logic.{◌≢◌, ◌⊎◌, inl, inr, ⊎_elim}
use mathlib.Core.Bool.{Bool, true, ◌&&◌}
use mathlib.Core.List.{List, reverse}
use lib.ListN.{length}
use lib.Dec.{eqb, leb, ltb}
use borrow.Author.Tests.{eqb-true, eqb-false, eq-eqb, ne_eqb, leb-true, le-leb, ltb-true, lt-ltb}
use Rattle.model.specs.Trace.{Trace, Valid, write, acquire, kind_of, object_of}
use Rattle.model.specs.Lists.{◌∈◌, nearest}
use Rattle.model.specs.Good.{Good, max_object}
use Rattle.model.proofs.Tests.{by_cases, both, true_both, either_true, or_right, object_small}
use Rattle.model.proofs.Lists.{reverse_mem, mem_reverse, nearest_mem, nearest_passes, any_mem, mem_any}
use Rattle.model.proofs.Passed.{passed-all, passed_last}
use Rattle.model.proofs.SectionsExact.{outermost_acquires}
use Rattle.decision.specs.Stairs.{is_opening, is_alike, is_within, is_bound, is_kept_apart, is_rising, is_forced, stair_in, least_stairs, climb, least_merge}
use Rattle.decision.proofs.IntervalTests.{alike_true, true_alike, true_opening}
use Rattle.decision.proofs.LeastStairs.{least_known, least_closed, least_below, climb-same}
use Rattle.stairs.specs.Stairs.{at, slot_of, InOthers, Solution, Least, Lists}
use Rattle.table.specs.Table.{trace, Linked}
use Rattle.table.specs.Links.{began}
use Rattle.table.proofs.BeganFacts.{began-le, began_opening, began_within, within_began, began_thread, began-observed, opening_cases}
use Rattle.bounds.specs.Parts.{Parts}
use Rattle.bounds.specs.Bounds.{end_in, Ends, Needs, Bound}

-- ---- intervals on one slot

module _ (t : Trace) (g : Good t) where
  alike_slot : (v w : ℕ) → is_alike t v w ≡ true → slot_of t v ≡ slot_of t w
  unfolding slot_of
  alike_slot v w e =
      let a = alike_true t v w e in
      let o = a.0 in
      ⊎_elim
      (λ x. let i = x.0 in let j = x.1 in rw (ne_eqb (kind_of t v) acquire (omega arith), ne_eqb (kind_of t w) acquire (omega arith)) o)
      (λ x. rw (eq-eqb _ _ (outermost_acquires t v x.0), eq-eqb _ _ (outermost_acquires t w x.1), o) refl)
      a.1

  slot_alike : (v w : ℕ) → Valid t v → Valid t w → is_opening t v ≡ true → is_opening t w ≡ true → slot_of t v ≡ slot_of t w → is_alike t v w ≡ true
  unfolding slot_of
  slot_alike v w x y a b e =
      let lv = object_small t g v x in
      let lw = object_small t g w y in
      true_alike t v w (⊎_elim
      (λ i.
      ⊎_elim
      (λ j. (rw (ne_eqb (kind_of t v) acquire (omega arith), ne_eqb (kind_of t w) acquire (omega arith)) at e, inl (i, j)))
      (λ j.
      let n : object_of t v ≡ suc max_object + object_of t w = rw (ne_eqb (kind_of t v) acquire (omega arith), eq-eqb _ _ (outermost_acquires t w j)) at e in
      absurd (omega arith))
      (opening_cases t w b))
      (λ i.
      ⊎_elim
      (λ j.
      let k : kind_of t w ≡ write = j in
      let n : suc max_object + object_of t v ≡ object_of t w = rw (eq-eqb _ _ (outermost_acquires t v i), ne_eqb (kind_of t w) acquire (omega arith)) at e in
      absurd (omega arith))
      (λ j.
      let n : suc max_object + object_of t v ≡ suc max_object + object_of t w = rw (eq-eqb _ _ (outermost_acquires t v i), eq-eqb _ _ (outermost_acquires t w j)) at e in
      (omega arith, inr (i, j)))
      (opening_cases t w b))
      (opening_cases t v a))

module _ (s : List ℕ) (l : Linked s) {m : ℕ} {P Q : List ℕ} (g : Parts (trace s) m P Q) where
  abbrev t : Trace
  t = trace s

  -- ---- the two lists

  begun_in : (k : ℕ) → k ∈ Q → InOthers t m k → (began t k ∈ Q) × (began t k ≤ k)
  begun_in k n i =
      let v = g.others k n in
      let le = began-le t k v.positive in
      ⊎_elim
      (λ r.
      let e = began-observed t k r in
      (⊎_elim (λ z. absurd (i.thread (g.moved_thread (began t k) (rw e z)))) (λ z. rw e z) (g.seen k (inr n) r (λ z. i.begins (e ∙ z))), le))
      (λ r.
      by_cases (eqb (began t k) k)
      (λ z. let e : began t k ≡ k = eqb-true _ _ z in (rw e n, le))
      (λ z.
      let ne = eqb-false (began t k) k z in
      let nz = i.begins in
      (g.others_earlier (began t k) k n (record { first = omega arith; less = omega arith; thread = r }), le)))
      (began_thread t l.good.well_formed k v i.begins)

  pub parts_lists : Lists t m P Q
  parts_lists = record { moved = g.moved; moved_up = g.moved_up; others = g.others; others_up = g.others_up; begun = begun_in }

  module _ {ends low : List ℕ} (e : Ends t P ends) (b : Needs P Q (Bound t P Q) low) where
    -- the end of an interval of P is in it, and above the others
    end_in_lem : (v : ℕ) → v ∈ P → 0 < at ends v → (at ends v ∈ P) × (began t (at ends v) ≡ v)
    unfolding end_in
    end_in_lem v n h =
        let test : ℕ → Bool = λ k. eqb (began t k) v in
        let d = e.is v n in
        let ne : nearest test (reverse P) ≢ 0 = λ z. let u : ⊥ = omega arith in u in
        rw d (mem_reverse _ P (nearest_mem test (reverse P) ne), eqb-true _ _ (nearest_passes test (reverse P) ne))

    in_end : (v p : ℕ) → v ∈ P → p ∈ P → began t p ≡ v → p ≤ at ends v
    unfolding end_in
    in_end v p n i d =
        let a = passed-all P (length P) (omega arith) in
        rw (e.is v n) (rw a at (passed_last (λ k. eqb (began t k) v) P (length P) p g.moved_up (rw a (reverse_mem i)) (eq-eqb _ _ d)))

    -- ---- a staircase that meets the tables has what must stand before

    module _ (h : ℕ → ℕ) (x : Solution t m P Q ends low h) where
      kept_apart : (p q : ℕ) → p ∈ P → q ∈ Q → is_kept_apart t P Q h p q ≡ true → p ≤ h q
      unfolding is_kept_apart
      kept_apart p q i j f =
          let y = mem_any _ P f in
          let v = y.0 in
          let a = both (is_alike t v q && is_within t v p) _ y.2 in
          let c = both (is_alike t v q) (is_within t v p) a.0 in
          let z = mem_any _ Q a.1 in
          let k = z.0 in
          let d = both (is_within t q k) (leb v (h k)) z.2 in
          let w = l.good.well_formed in
          let al = alike_true t v q c.0 in
          let ov = true_opening t v (⊎_elim (λ u. inl u.0) (λ u. inr u.0) al.1) in
          let oq = true_opening t q (⊎_elim (λ u. inl u.1) (λ u. inr u.1) al.1) in
          let bp = within_began t w v p (g.moved v y.1) (g.moved p i) ov c.1 in
          let bk : began t k ≡ q = within_began t w q k (g.others q j) (g.others k z.1) oq d.0 in
          let le = in_end v p y.1 i bp in
          let pos = (g.moved p i).positive in
          let qos = (g.others q j).positive in
          let r : at ends v ≤ h (began t k) =
          x.apart k z.1 (record { begins = λ u. let n : ⊥ = omega arith in n; thread = rw bk (g.others_thread q j) }) v y.1 (omega arith)
          (alike_slot t l.good v q c.0 ∙ ap (slot_of t) (sym bk)) (leb-true v (h k) d.1) in
          let same : h (began t k) ≡ h q = ap h bk in
          omega arith

      pub solution_closed : (p q : ℕ) → p ∈ P → q ∈ Q → is_forced t P Q h p q ≡ true → p ≤ h q
      unfolding is_forced is_rising
      solution_closed p q i j f =
          ⊎_elim
          (λ a. let u = (b.is q j).above p i a in let w = x.above q j in omega arith)
          (λ a.
          ⊎_elim
          (λ c. kept_apart p q i j c)
          (λ c.
          let y = mem_any _ Q c in
          let d = both (ltb y.0 q) (leb p (h y.0)) y.2 in
          let up = x.climbs y.0 q y.1 j (ltb-true _ _ d.0) in
          let le = leb-true p (h y.0) d.1 in
          omega arith)
          (either_true (is_kept_apart t P Q h p q) (is_rising Q h p q) a))
          (either_true (is_bound t P Q p q) _ f)

    -- ---- and one that has it, and no number that is no event of P, meets the tables

    module _ (h : ℕ → ℕ) (known : (q : ℕ) → q ∈ Q → (h q ≡ 0) ⊎ (h q ∈ P)) (c : (p q : ℕ) → p ∈ P → q ∈ Q → is_forced t P Q h p q ≡ true → p ≤ h q) where
      climbs : (j k : ℕ) → j ∈ Q → k ∈ Q → j < k → h j ≤ h k
      unfolding is_forced is_rising
      climbs j k x y lt =
          ⊎_elim
          (λ z. let d : h j ≡ 0 = z in omega arith)
          (λ n. c (h j) k n y (or_right (is_bound t P Q (h j) k) (or_right (is_kept_apart t P Q h (h j) k) (any_mem _ x (true_both (lt-ltb j k lt) (le-leb (h j) (h j) (omega arith)))))))
          (known j x)

      above : (k : ℕ) → k ∈ Q → at low k ≤ h k
      unfolding is_forced
      above k n = ⊎_elim (λ z. let d : at low k ≡ 0 = z in omega arith) (λ z. c (at low k) k z.0 n (rw z.1)) (b.is k n).from

      apart : (k : ℕ) → k ∈ Q → InOthers t m k → (v : ℕ) → v ∈ P → 0 < at ends v → slot_of t v ≡ slot_of t (began t k) → v ≤ h k → at ends v ≤ h (began t k)
      unfolding is_forced is_kept_apart
      apart k n i v x pos sl le =
          let w = l.good.well_formed in
          let d = end_in_lem v x pos in
          let p = at ends v in
          let o = begun_in k n i in
          let vp = (g.moved v x).positive in
          let nz : began t p ≢ 0 = λ z. let q = d.1 in let u : ⊥ = omega arith in u in
          let ov : is_opening t v ≡ true = rw d.1 at (began_opening t p nz) in
          let al = slot_alike t l.good v (began t k) (g.moved v x) (g.others (began t k) o.0) ov (began_opening t k i.begins) sl in
          let wp : is_within t v p ≡ true = rw d.1 at (began_within t w p (g.moved p d.0) nz) in
          let wk = began_within t w k (g.others k n) i.begins in
          c p (began t k) d.0 o.0 (or_right (is_bound t P Q p (began t k)) (rw (any_mem _ x (true_both (true_both al wp) (any_mem _ n (true_both wk (le-leb v (h k) le)))))))

      closed_solution : Solution t m P Q ends low h
      closed_solution = record { climbs = climbs; above = above; apart = apart }

    -- ---- so the two least ones agree

    few : (p : ℕ) → p ∈ P → p ≤ length t
    few p n = (g.moved p n).bounded

    pub least_is : {need : List ℕ} → Least t m P Q ends low need → (q : ℕ) → q ∈ Q → at need q ≡ stair_in Q (least_stairs t P Q) q
    least_is {need} x q n =
        let L = stair_in Q (least_stairs t P Q) in
        let down = least_below t P Q g.moved_up few (at need) (solution_closed (at need) x.solution) q n in
        let up = x.least L (closed_solution L (least_known t P Q g.moved_up few) (least_closed t P Q g.moved_up few)) q n in
        omega arith

    pub merge_is : {need : List ℕ} → Least t m P Q ends low need → climb (at need) P Q ≡ least_merge t P Q
    unfolding least_merge
    merge_is {need} x = climb-same (at need) (stair_in Q (least_stairs t P Q)) P Q (least_is x)
