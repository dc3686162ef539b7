-- Sections of a lock: who holds it stands in the section of an outermost acquire, and the next section on it waits for the matching release.
use Prim.Native.Nat.{ℕ, zero, suc, ◌≤◌, ◌<◌}
use native.Mathlib.Omega.{arith}
use native.Mathlib.Nat.{suc_inj}
use mathlib.Core.Path.{◌≡◌, refl, sym, ◌∙◌, ap}
use mathlib.Core.Logic.{◌≢◌, inl, ⊎_elim}
use mathlib.Core.Bool.{true}
use mathlib.Core.List.{List, reverse, reverse-reverse}
use lib.ListN.{length}
use lib.Dec.{eqb, leb}
use borrow.Author.Tests.{eqb-true, eqb-false, eq-eqb, leb-true, leb-false}
use Rattle.model.specs.Trace.{Trace, Valid, acquire, release, thread_of, kind_of, object_of, does}
use Rattle.model.specs.Lists.{◌∈◌, up_to, listed, own, just}
use Rattle.model.specs.Good.{depth, holder, WellFormed}
use Rattle.model.specs.Reordering.{Step}
use Rattle.model.specs.Sections.{own_depth, is_outermost, OwnDepths}
use Rattle.model.specs.Cone.{matching}
use Rattle.model.specs.Matching.{HeldUntil, HoldEnd, freed, never_freed}
use Rattle.model.proofs.Tests.{by_cases, both, clash, true_both, does-true, true-just}
use Rattle.model.proofs.Lists.{mem_own, own_mem, mem_up_to, up_to_mem, mem_listed, listed_mem}
use Rattle.model.proofs.Histories.{Legal, of_legal, legal_valid, beginning}
use Rattle.model.proofs.Locks.{Locked, nobody, lock-only, held_part, locked, locked_up_to, locked_before}
use Rattle.model.proofs.SectionsExact.{outermost_acquires, own_depths_agree, own-depth-lock}
use Rattle.model.proofs.MatchingExact.{matching_ends, matching_exactly}

-- who holds a lock is known from the thread's own events
pub same-holder : (t : Trace) (c x : ℕ) (h g : List ℕ) → Locked t h → Locked t g → own t c h ≡ own t c g → holder t x h ≡ suc c → holder t x g ≡ suc c
same-holder t c x h g l k e p =
    (held_part t (just c) x g k c (ap (holder t x) (sym e) ∙ (lock-only t (just c) x h l).0 ∙ rw (p, true-just c c refl))).0

module _ (t : Trace) (w : WellFormed t) where
  pub depths : (h : List ℕ) → Legal t h → OwnDepths t h
  depths h l = rw (reverse-reverse h) at (own_depths_agree t w (reverse h) (of_legal t h l))

  -- ---- in the trace

  -- the section that thread d stands in as the holder of lock x after event n
  pub record Holding (x d n : ℕ) : Type 0 where
    pub start : ℕ
    pub valid : Valid t start
    pub outermost : is_outermost t start ≡ true
    pub lock : object_of t start ≡ x
    pub thread : thread_of t start ≡ d
    pub passed : start ≤ n
    pub held : HeldUntil t start (suc n)

  goes_on : (x d n : ℕ) → holder t x (up_to (suc n)) ≡ suc d → Holding x d n → Holding x d (suc n)
  goes_on x d n e h = record {
    start = h.start;
    valid = h.valid;
    outermost = h.outermost;
    lock = h.lock;
    thread = h.thread;
    passed = let z = h.passed in omega arith;
    held = λ i p q.
        by_cases (eqb i (suc n))
        (λ z. let y : i ≡ suc n = eqb-true _ _ z in ap (λ (k : ℕ). holder t (object_of t h.start) (up_to k)) y ∙ ap (λ (l : ℕ). holder t l (up_to (suc n))) h.lock ∙ e ∙ ap suc (sym h.thread))
        (λ z. let y : i ≢ suc n = eqb-false _ _ z in h.held i p (omega arith));
  }

  begins : (x d n : ℕ) → holder t x (up_to (suc n)) ≡ suc d → suc n ≤ length t → kind_of t (suc n) ≡ acquire → object_of t (suc n) ≡ x → thread_of t (suc n) ≡ d
      → holder t (object_of t (suc n)) (up_to n) ≡ 0 → Holding x d (suc n)
  unfolding is_outermost
  begins x d n h p a o e z =
      let v : Valid t (suc n) = record { positive = omega arith; bounded = p } in record {
        start = suc n;
        valid = v;
        outermost = true_both (eq-eqb _ _ a) (eq-eqb _ _ (own-depth-lock t w (suc n) v (inl a) ∙ (nobody t (object_of t (suc n)) (up_to n) (locked_before t w (suc n) p)).0 z));
        lock = o;
        thread = e;
        passed = omega arith;
        held = λ i q r. let y : i ≡ suc n = omega arith in rw y (ap (λ (z : ℕ). holder t z (up_to (suc n))) o ∙ h ∙ ap suc (sym e));
      }

  pub holding : (x d n : ℕ) → n ≤ length t → holder t x (up_to n) ≡ suc d → Holding x d n
  holding x d zero p h = absurd (omega arith)
  holding x d (suc n) p h =
      by_cases (does t acquire x (suc n))
      (λ a.
      let v : Valid t (suc n) = record { positive = omega arith; bounded = p } in
      let k = does-true t acquire x (suc n) a in
      let e : thread_of t (suc n) ≡ d = suc_inj (rw a at h) in
      ⊎_elim
      (λ z. begins x d n h p k.0 k.1 e z)
      (λ z. let y : holder t x (up_to n) ≡ suc d = rw (k.1, e) at z in goes_on x d n h (holding x d n (omega arith) y))
      (w.taken_free (suc n) v k.0))
      (λ a.
      by_cases (does t release x (suc n))
      (λ r.
      by_cases (leb (depth t x (up_to n)) 1)
      (λ l. let z : 0 ≡ suc d = rw (a, r, l) at h in absurd (omega arith))
      (λ l. goes_on x d n h (holding x d n (omega arith) (rw (a, r, l) at h))))
      (λ r. goes_on x d n h (holding x d n (omega arith) (rw (a, r) at h))))

  -- it has no end up to there
  pub holding_on : (x d n : ℕ) (h : Holding x d n) → matching t h.start ≢ 0 → n < matching t h.start
  holding_on x d n h ne = go (matching t h.start) ((matching_exactly t w h.start h.valid h.outermost (matching t h.start)).0 refl) ne
    where
      go : (r : ℕ) → HoldEnd t h.start r → r ≢ 0 → n < r
      go r (freed a b f z) ne =
          by_cases (leb r n)
          (λ e. let y = leb-true r n e in let u = h.held r (omega arith) (omega arith) in absurd (omega arith))
          (λ e. leb-false r n e)
      go r (never_freed f) ne = absurd (ne refl)

  -- sections on one lock do not overlap
  pub sections_apart : (a b : ℕ) → Valid t a → Valid t b → is_outermost t a ≡ true → is_outermost t b ≡ true → object_of t a ≡ object_of t b → a < b → (matching t a ≢ 0) × (matching t a < b)
  unfolding is_outermost
  sections_apart a zero va vb oa ob e l = absurd (omega arith)
  sections_apart a (suc n) va vb oa ob e l =
      let x = object_of t (suc n) in
      let q = both (eqb (kind_of t (suc n)) acquire) (eqb (own_depth t (suc n)) 0) ob in
      let d : depth t x (up_to n) ≡ 0 = sym (own-depth-lock t w (suc n) vb (inl (eqb-true _ _ q.0))) ∙ eqb-true _ _ q.1 in
      let z : holder t (object_of t a) (up_to n) ≡ 0 = rw e ((nobody t x (up_to n) (locked_before t w (suc n) vb.bounded)).1 d) in
      go (matching t a) ((matching_exactly t w a va oa (matching t a)).0 refl) z
    where
      go : (r : ℕ) → HoldEnd t a r → holder t (object_of t a) (up_to n) ≡ 0 → (r ≢ 0) × (r < suc n)
      go r (freed p q f y) z =
          by_cases (leb r n)
          (λ d. let u = leb-true r n d in ((λ k. let i : ⊥ = omega arith in i), omega arith))
          (λ d. let u = f n (omega arith) (leb-false r n d) in absurd (omega arith))
      go r (never_freed f) z = let u = f n (omega arith) (let y = vb.bounded in omega arith) in absurd (omega arith)

  -- ---- in a correct reordering

  module _ (h : List ℕ) (l : Legal t h) where
    -- an outermost acquire comes only after the matching release of each section of its lock that has begun
    pub released : (b : ℕ) → Step t h b → is_outermost t b ≡ true → (a : ℕ) → is_outermost t a ≡ true → object_of t a ≡ object_of t b → a ∈ h → matching t a ∈ h
    released b s ob a oa same n =
        by_cases (listed (matching t a) h) (λ e. listed_mem (matching t a) h e) (λ e. absurd (
        let c = thread_of t a in
        let g = beginning t h l c in
        let v = legal_valid t h l a n in
        let x : a ∈ own t c h = own_mem t c n refl in
        let passed = (mem_up_to g.0 a (mem_own t c a (up_to g.0) (rw g.2 at x)).0).1 in
        let held = until g.0 g.1 passed g.2 (λ y. clash (mem_listed y) e) (matching t a) refl ((matching_exactly t w a v oa (matching t a)).0 refl) in
        let y : holder t (object_of t b) h ≡ suc c = rw same at (same-holder t c (object_of t a) (up_to g.0) h (locked_up_to t w g.0 g.1) (locked t w h l) (sym g.2) held) in
        let z : holder t (object_of t b) h ≡ 0 = ((depths h l).taken b s.enabled.next (outermost_acquires t b ob)).0 (s.free (outermost_acquires t b ob)) ob in
        let u : ⊥ = omega arith in u))
      where
        until : (n : ℕ) → n ≤ length t → a ≤ n → own t (thread_of t a) h ≡ own t (thread_of t a) (up_to n) → ¬ (matching t a ∈ h)
            → (r : ℕ) → matching t a ≡ r → HoldEnd t a r → holder t (object_of t a) (up_to n) ≡ suc (thread_of t a)
        until n p q e out r m (freed u v f z) =
            by_cases (leb r n)
            (λ d.
            let c = thread_of t a in
            let th : thread_of t r ≡ c = rw m at (matching_ends t a (λ y. absurd (omega arith))).thread in
            let i : r ∈ own t c (up_to n) = own_mem t c (up_to_mem n r (omega arith) (leb-true r n d)) th in
            absurd (out (rw m (mem_own t c r h (rw e i)).0)))
            (λ d. f n q (leb-false r n d))
        until n p q e out r m (never_freed f) = f n q (omega arith)
