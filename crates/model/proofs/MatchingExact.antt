-- The matching release of an outermost acquire is the event after which nobody holds its lock any more.
use Prim.Native.Nat.{ℕ, zero, suc, ◌+◌, ◌-◌, ◌≤◌, ◌<◌}
use native.Mathlib.Omega.{arith}
use mathlib.Core.Path.{◌≡◌, refl, ◌∙◌, ap, sym}
use mathlib.Core.Logic.{◌≢◌, ⊎_elim, ◌↔◌}
use mathlib.Core.Bool.{Bool, true, false, cond, ◌&&◌}
use lib.ListN.{length}
use lib.Dec.{eqb, ltb}
use borrow.Author.Tests.{eqb-true, eqb-false, eq-eqb, lt-ltb, le-ltb, ltb-true, ltb-false}
use Rattle.model.specs.Trace.{Trace, Valid, acquire, release, thread_of, kind_of, object_of, does}
use Rattle.model.specs.Lists.{up_to, numbers, nearest}
use Rattle.model.specs.Good.{holder, WellFormed}
use Rattle.model.specs.Sections.{is_outermost, is_last}
use Rattle.model.specs.Cone.{gives_back, matching}
use Rattle.model.specs.Matching.{HeldUntil, HoldEnd, freed, never_freed}
use Rattle.model.proofs.Tests.{by_cases, both, clash, true-does, does-true}
use Rattle.model.proofs.Lists.{after, numbers_split, nearest_skip, nearest_mem, nearest_passes, mem_numbers}
use Rattle.model.proofs.Locks.{locked_before}
use Rattle.model.proofs.SectionsExact.{after-release, outermost_acquires, last_releases}

module _ (t : Trace) (k : ℕ) where
  -- an inner acquire has none
  pub matching_inner : is_outermost t k ≡ false → matching t k ≡ 0
  unfolding matching
  matching_inner e = rw e

  -- those up to k do not match it
  pub matching-after : (d : ℕ) → k + d ≡ length t → is_outermost t k ≡ true → matching t k ≡ nearest (gives_back t k) (after k d)
  unfolding matching gives_back
  matching-after d e o = rw o (ap (nearest (gives_back t k)) (numbers_split t d k e) ∙ nearest_skip (gives_back t k) k (after k d) (λ j l. rw (le-ltb k j l)))

-- what it is: the last release of the same lock by the same thread, later than its outermost acquire
pub record Ends (t : Trace) (a r : ℕ) : Type 0 where
  pub outermost : is_outermost t a ≡ true
  pub later : a < r
  pub last : is_last t r ≡ true
  pub lock : object_of t r ≡ object_of t a
  pub thread : thread_of t r ≡ thread_of t a

pub matching_ends : (t : Trace) (a : ℕ) → matching t a ≢ 0 → Ends t a (matching t a)
unfolding matching gives_back
matching_ends t a ne =
    by_cases (is_outermost t a)
    (λ o.
    let r = nearest (λ j. gives_back t a j) (numbers t) in
    let e : matching t a ≡ r = rw o in
    let g : gives_back t a r ≡ true = nearest_passes (λ j. gives_back t a j) (numbers t) (λ z. ne (e ∙ z)) in
    let p = both (ltb a r) (is_last t r && (eqb (object_of t r) (object_of t a) && eqb (thread_of t r) (thread_of t a))) g in
    let q = both (is_last t r) (eqb (object_of t r) (object_of t a) && eqb (thread_of t r) (thread_of t a)) p.1 in
    let s = both (eqb (object_of t r) (object_of t a)) (eqb (thread_of t r) (thread_of t a)) q.1 in
    rw e (record { outermost = o; later = ltb-true a r p.0; last = q.0; lock = eqb-true _ _ s.0; thread = eqb-true _ _ s.1 }))
    (λ o. absurd (ne (matching_inner t a o)))

-- it is an event of the trace
pub matching_valid : (t : Trace) (k : ℕ) → matching t k ≢ 0 → Valid t (matching t k)
unfolding matching
matching_valid t k ne =
    by_cases (is_outermost t k)
    (λ e. rw e (mem_numbers t _ (nearest_mem (λ j. gives_back t k j) (numbers t) (rw e at ne))))
    (λ e. let z = rw e at ne in absurd (z refl))

module _ (t : Trace) (w : WellFormed t) (k : ℕ) where
  abbrev lock : ℕ
  lock = object_of t k

  abbrev Holds : ℕ → Type 0
  Holds m = holder t lock (up_to m) ≡ suc (thread_of t k)

  -- an outermost acquire, as any other, makes its thread the holder
  pub held_from : is_outermost t k ≡ true → Holds k
  held_from o = go k (outermost_acquires t k o)
    where
      go : (k : ℕ) → kind_of t k ≡ acquire → holder t (object_of t k) (up_to k) ≡ suc (thread_of t k)
      go zero a = absurd (omega arith)
      go (suc k) a = rw (true-does t acquire (object_of t (suc k)) (suc k) a refl)

  module _ (m : ℕ) (v : Valid t (suc m)) (held : Holds m) where
    -- who acquires or releases the lock meanwhile is the thread that holds it
    pub own-release : kind_of t (suc m) ≡ release → object_of t (suc m) ≡ lock → thread_of t (suc m) ≡ thread_of t k
    own-release r o = let h : holder t lock (up_to m) ≡ suc (thread_of t (suc m)) = rw o at (w.given_back (suc m) v r) in omega arith

    own-acquire : kind_of t (suc m) ≡ acquire → object_of t (suc m) ≡ lock → thread_of t (suc m) ≡ thread_of t k
    own-acquire a o =
        ⊎_elim
        (λ z. let h : holder t lock (up_to m) ≡ 0 = rw o at z in absurd (omega arith))
        (λ z. let h : holder t lock (up_to m) ≡ suc (thread_of t (suc m)) = rw o at z in omega arith)
        (w.taken_free (suc m) v a)

    after-own : kind_of t (suc m) ≡ release → object_of t (suc m) ≡ lock → (b : Bool) → is_last t (suc m) ≡ b → holder t lock (up_to (suc m)) ≡ cond b 0 (suc (thread_of t k))
    after-own r o b e =
        let h = after-release t (up_to m) (locked_before t w (suc m) v.bounded) (suc m) refl r (w.given_back (suc m) v r) in
        ap (λ (x : ℕ). holder t x (up_to (suc m))) (sym o) ∙ h ∙ rw (e, own-release r o)

    -- only its own last release frees it
    pub still_held : k ≤ m → gives_back t k (suc m) ≡ false → Holds (suc m)
    unfolding gives_back
    still_held p n =
        by_cases (does t acquire lock (suc m)) (λ a. let q = does-true t acquire lock (suc m) a in rw a (ap suc (own-acquire q.0 q.1))) (λ a.
        by_cases (does t release lock (suc m))
        (λ r.
        let q = does-true t release lock (suc m) r in
        let own = own-release q.0 q.1 in
        let l : is_last t (suc m) ≡ false =
        by_cases (is_last t (suc m)) (λ e. clash (rw (e, lt-ltb k (suc m) (omega arith), eq-eqb _ _ q.1, eq-eqb _ _ own)) n) (λ e. e) in
        after-own q.0 q.1 false l)
        (λ r. rw (a, r) held))

    frees : gives_back t k (suc m) ≡ true → holder t lock (up_to (suc m)) ≡ 0
    unfolding gives_back
    frees g =
        let p = both (ltb k (suc m)) (is_last t (suc m) && (eqb (object_of t (suc m)) (object_of t k) && eqb (thread_of t (suc m)) (thread_of t k))) g in
        let q = both (is_last t (suc m)) (eqb (object_of t (suc m)) (object_of t k) && eqb (thread_of t (suc m)) (thread_of t k)) p.1 in
        let o = both (eqb (object_of t (suc m)) (object_of t k)) (eqb (thread_of t (suc m)) (thread_of t k)) q.1 in
        after-own (last_releases t (suc m) q.0) (eqb-true _ _ o.0) true q.0

  -- one event longer
  held_more : (m : ℕ) → HeldUntil t k (suc m) → Holds (suc m) → HeldUntil t k (suc (suc m))
  held_more m f h i a b = by_cases (eqb i (suc m)) (λ e. rw (eqb-true i (suc m) e) h) (λ e. let ne = eqb-false i (suc m) e in f i a (omega arith))

  hold_end : (d m : ℕ) → k ≤ m → m + d ≡ length t → HeldUntil t k (suc m) → HoldEnd t k (nearest (gives_back t k) (after m d))
  hold_end zero m l e f = let z : length t ≡ m = omega arith in never_freed (rw z f)
  hold_end (suc d) m l e f =
      let v : Valid t (suc m) = record { positive = omega arith; bounded = omega arith } in
      let h = f m l (omega arith) in
      by_cases (gives_back t k (suc m))
      (λ g. rw g (freed {r = suc m} (omega arith) v.bounded f (frees m v h g)))
      (λ g. rw g (hold_end d (suc m) (omega arith) (omega arith) (held_more m f (still_held m v h l g))))

  -- there is only one
  one_end : (r s : ℕ) → HoldEnd t k r → HoldEnd t k s → r < s → ⊥
  one_end r s (freed a b f z) (freed a' b' f' z') h = let y = f' r (omega arith) h in omega arith
  one_end r s (never_freed f) (freed a' b' f' z') h = let y = f s (omega arith) (omega arith) in omega arith
  one_end r s p (never_freed f) h = omega arith

  -- the matching release exactly where the hold ends, and 0 exactly where it does not
  pub matching_exactly : Valid t k → is_outermost t k ≡ true → (r : ℕ) → (matching t k ≡ r) ↔ HoldEnd t k r
  matching_exactly v o r = (
    (λ e. rw e at found),
    (λ q.
        let m = matching t k in
        by_cases (ltb m r)
        (λ e. absurd (one_end m r found q (ltb-true m r e)))
        (λ e. by_cases (ltb r m) (λ d. absurd (one_end r m q found (ltb-true r m d))) (λ d. let a = ltb-false m r e in let b = ltb-false r m d in omega arith))),
  )
    where
      found : HoldEnd t k (matching t k)
      found =
          let b = v.bounded in
          let d = length t - k in
          let e : k + d ≡ length t = omega arith in
          rw (matching-after t k d e o) (hold_end d k (omega arith) e (λ i p q. let z : i ≡ k = omega arith in rw z (held_from o)))
