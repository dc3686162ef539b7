-- Locks in a correct reordering, and what is left of it when only some threads' events are kept.
use Prim.Native.Nat.{ℕ, zero, suc, ◌-◌, ◌≤◌, ◌<◌, zero-le}
use native.Mathlib.Omega.{arith}
use native.Mathlib.Nat.{suc_inj}
use mathlib.Core.Path.{◌≡◌, refl, sym, ◌∙◌, ap}
use mathlib.Core.Logic.{◌⊎◌, inl, inr, ◌↔◌}
use mathlib.Core.Bool.{Bool, true, false, cond}
use mathlib.Core.List.Memᴰ
use mathlib.Core.List.{List, [], ◌∷◌}
use lib.ListN.{length}
use lib.Dec.{leb}
use borrow.Author.Tests.{leb-true, leb-false}
use Rattle.model.specs.Trace.{Trace, Valid, read, acquire, release, thread_of, kind_of, object_of, does}
use Rattle.model.specs.Lists.{◌∈◌, up_to, before, only, just}
use Rattle.model.specs.Observed.{observed}
use Rattle.model.specs.Good.{depth, holder, Free, Held, WellFormed}
use Rattle.model.specs.Awaits.{Awaits}
use Rattle.model.specs.Reordering.{Next, Sees}
use Rattle.model.proofs.Tests.{by_cases, does-true, true-just}
use Rattle.model.proofs.Lists.{only_mem, own-only}
use Rattle.model.proofs.Histories.{Legal, last_write-kept}

-- each acquire in the history takes a free lock, each release is by the holder
unfoldable pub Locked : Trace → List ℕ → Type 0
Locked t [] = Unit {0}
Locked t (k ∷ h) = (kind_of t k ≡ acquire → Free t h k) × (kind_of t k ≡ release → Held t h k) × Locked t h

module _ (t : Trace) (x : ℕ) where
  -- an acquire's lock is open to its thread, a release's is held by it
  acquire_open : (k : ℕ) (h : List ℕ) → Locked t (k ∷ h) → does t acquire x k ≡ true → (holder t x h ≡ 0) ⊎ (holder t x h ≡ suc (thread_of t k))
  unfolding Locked
  acquire_open k h l p = let d = does-true t acquire x k p in rw d.1 at (l.0 d.0)

  release_held : (k : ℕ) (h : List ℕ) → Locked t (k ∷ h) → does t release x k ≡ true → holder t x h ≡ suc (thread_of t k)
  unfolding Locked
  release_held k h l q = let d = does-true t release x k q in rw d.1 at (l.1 d.0)

  rest_locked : (k : ℕ) (h : List ℕ) → Locked t (k ∷ h) → Locked t h
  unfolding Locked
  rest_locked k h l = l.2

  -- a lock has no holder just where its depth is 0
  pub nobody : (h : List ℕ) → Locked t h → (holder t x h ≡ 0) ↔ (depth t x h ≡ 0)
  nobody [] l = ((λ e. refl), (λ e. refl))
  nobody (k ∷ h) l =
      let ih = nobody h (rest_locked k h l) in
      by_cases (does t acquire x k) (λ p. rw p ((λ e. absurd (omega arith)), (λ e. absurd (omega arith)))) (λ p.
      by_cases (does t release x k)
      (λ q.
      let g = release_held k h l q in
      by_cases (leb (depth t x h) 1)
      (λ z. let y : depth t x h ≤ 1 = leb-true _ _ z in rw (p, q, z) ((λ e. omega arith), (λ e. refl)))
      (λ z. let y : 1 < depth t x h = leb-false _ _ z in rw (p, q, z) ((λ e. absurd (omega arith)), (λ e. absurd (omega arith)))))
      (λ q. rw (p, q) ih))

-- a lock is held no deeper than events stand before
depth-up_to : (t : Trace) (x k : ℕ) → depth t x (up_to k) ≤ k
depth-up_to t x zero = zero-le
depth-up_to t x (suc k) =
    let ih = depth-up_to t x k in
    by_cases (does t acquire x (suc k)) (λ p. rw p (omega arith)) (λ p. by_cases (does t release x (suc k)) (λ q. rw (p, q) (omega arith)) (λ q. rw (p, q) (omega arith)))

pub depth-before : (t : Trace) (x k : ℕ) → depth t x (before k) ≤ k
depth-before t x zero = zero-le
depth-before t x (suc k) = let z = depth-up_to t x k in omega arith

-- ---- only some threads' events

-- who still holds a lock, and how deep
abbrev through : (ℕ → Bool) → ℕ → ℕ
through s zero = 0
through s (suc c) = cond (s c) (suc c) 0

abbrev pub sharing : (ℕ → Bool) → ℕ → ℕ → ℕ
sharing s zero d = 0
sharing s (suc c) d = cond (s c) d 0

through-suc : (s : ℕ → Bool) (n c : ℕ) → through s n ≡ suc c → (n ≡ suc c) × (s c ≡ true)
through-suc s zero c e = absurd (omega arith)
through-suc s (suc d) c e =
    by_cases (s d) (λ p. let z : suc d ≡ suc c = rw p at e in (z, ap s (sym (suc_inj z)) ∙ p)) (λ p. let z = rw p at e in absurd (omega arith))

module _ (t : Trace) (s : ℕ → Bool) where
  -- a lock that is nobody's or a thread's which is left out is nobody's
  gone : (n c : ℕ) → (n ≡ 0) ⊎ (n ≡ suc c) → s c ≡ false → (d : ℕ) → (through s n ≡ 0) × (sharing s n d ≡ 0)
  gone n c (inl z) e d = rw z (refl, refl)
  gone n c (inr z) e d = rw (z, e) (refl, refl)

  pub lock-only : (x : ℕ) (h : List ℕ) → Locked t h
      → (holder t x (only t s h) ≡ through s (holder t x h)) × (depth t x (only t s h) ≡ sharing s (holder t x h) (depth t x h))
  lock-only x [] l = (refl, refl)
  lock-only x (k ∷ h) l =
      let c = thread_of t k in
      let ih = lock-only x h (rest_locked t x k h l) in
      by_cases (does t acquire x k)
      (λ p.
      let f = acquire_open t x k h l p in
      by_cases (s c)
      (λ e. rw (e, p, e) (refl, ap suc (ih.1 ∙ deeper f e)))
      (λ e. let g = gone (holder t x h) c f e (depth t x h) in rw (e, p, e) (ih.0 ∙ g.0, ih.1 ∙ g.1)))
      (λ p.
      by_cases (does t release x k)
      (λ q.
      let g = release_held t x k h l q in
      by_cases (s c)
      (λ e.
      let i : holder t x (only t s h) ≡ holder t x h = ih.0 ∙ rw (g, e) in
      let j : depth t x (only t s h) ≡ depth t x h = ih.1 ∙ rw (g, e) in
      by_cases (leb (depth t x h) 1)
      (λ z. let y : depth t x h ≤ 1 = leb-true _ _ z in rw (e, p, q, j, z) (refl, omega arith))
      (λ z. rw (e, p, q, j, z, i, g, e) (refl, refl)))
      (λ e.
      let y = gone (holder t x h) c (inr g) e (depth t x h) in
      by_cases (leb (depth t x h) 1)
      (λ z. rw (e, p, q, z) (ih.0 ∙ y.0, ih.1 ∙ y.1))
      (λ z. rw (e, p, q, z) (ih.0, ih.1 ∙ y.1 ∙ sym (gone (holder t x h) c (inr g) e (depth t x h - 1)).1))))
      (λ q. by_cases (s c) (λ e. rw (e, p, q) ih) (λ e. rw (e, p, q) ih)))
    where
      deeper : (holder t x h ≡ 0) ⊎ (holder t x h ≡ suc (thread_of t k)) → s (thread_of t k) ≡ true → sharing s (holder t x h) (depth t x h) ≡ depth t x h
      deeper (inl z) e = let d = (nobody t x h (rest_locked t x k h l)).0 z in rw (z, d) refl
      deeper (inr z) e = rw (z, e) refl

  -- an acquire that may come still may
  pub free_only : (h : List ℕ) → Locked t h → (k : ℕ) → Free t h k → Free t (only t s h) k
  free_only h l k (inl z) = inl ((lock-only (object_of t k) h l).0 ∙ ap (through s) z)
  free_only h l k (inr z) =
      let e = (lock-only (object_of t k) h l).0 ∙ ap (through s) z in by_cases (s (thread_of t k)) (λ y. inr (e ∙ rw y)) (λ y. inl (e ∙ rw y))

  pub locked_only : (h : List ℕ) → Locked t h → Locked t (only t s h)
  unfolding Locked
  locked_only [] l = tt
  locked_only (k ∷ h) l =
      by_cases (s (thread_of t k))
      (λ e. rw e (
        (λ a. free_only h l.2 k (l.0 a)),
        (λ r. (lock-only (object_of t k) h l.2).0 ∙ ap (through s) (l.1 r) ∙ rw e),
        locked_only h l.2,
      ))
      (λ e. rw e (locked_only h l.2))

  -- who holds a lock in a part of the events holds it, and is of that part
  pub held_part : (x : ℕ) (h : List ℕ) → Locked t h → (c : ℕ) → holder t x (only t s h) ≡ suc c → (holder t x h ≡ suc c) × (s c ≡ true)
  held_part x h l c e = through-suc s (holder t x h) c (sym (lock-only x h l).0 ∙ e)

-- ---- in a correct reordering of a well-formed trace every release is by the holder

module _ (t : Trace) (w : WellFormed t) where
  pub locked_up_to : (m : ℕ) → m ≤ length t → Locked t (up_to m)
  unfolding Locked
  locked_up_to zero p = tt
  locked_up_to (suc m) p =
      let v : Valid t (suc m) = record { positive = omega arith; bounded = p } in
      (w.taken_free (suc m) v, w.given_back (suc m) v, locked_up_to m (omega arith))

  pub locked_before : (k : ℕ) → k ≤ length t → Locked t (before k)
  unfolding Locked
  locked_before zero p = tt
  locked_before (suc m) p = locked_up_to m (omega arith)

  -- whether a thread holds a lock is told by its own events
  pub held_next : (h : List ℕ) → Locked t h → (k : ℕ) → Next t h k → kind_of t k ≡ release → Held t h k
  held_next h l k en r =
      let c = thread_of t k in
      let x = object_of t k in
      let held : through (just c) (holder t x (before k)) ≡ suc c = ap (through (just c)) (w.given_back k en.valid r) ∙ rw (true-just c c refl) in
      (held_part t (just c) x h l c (ap (holder t x) en.turn ∙ (lock-only t (just c) x (before k) (locked_before k en.valid.bounded)).0 ∙ held)).0

  pub locked : (h : List ℕ) → Legal t h → Locked t h
  unfolding Locked
  locked [] l = tt
  locked (k ∷ h) l = let ih = locked h l.1 in (l.0.free, held_next h ih k l.0.enabled.next, ih)

-- what is left when only the events of a set of threads are kept that wrote all they read and have all they wait for
module _ (t : Trace) (s : ℕ → Bool) where
  pub legal_only : (h : List ℕ) → Legal t h → Locked t h
      → ((k : ℕ) → k ∈ h → s (thread_of t k) ≡ true → kind_of t k ≡ read → (observed t k ≡ 0) ⊎ (s (thread_of t (observed t k)) ≡ true))
      → ((k : ℕ) → k ∈ h → s (thread_of t k) ≡ true → (j : ℕ) → Awaits t k j → s (thread_of t j) ≡ true)
      → Legal t (only t s h)
  unfolding Locked
  legal_only [] l d f g = tt
  legal_only (k ∷ h) l d f g =
      let ih : Legal t (only t s h) = legal_only h l.1 d.2 (λ j m. f j (Memᴰ.tail m)) (λ j m. g j (Memᴰ.tail m)) in
      let st = l.0 in
      by_cases (s (thread_of t k))
      (λ e. rw e (
        record {
          enabled = let n = st.enabled.next in record {
            next = record { valid = n.valid; turn = own-only t s (thread_of t k) e h ∙ n.turn };
            ready = λ j a. only_mem t s (st.enabled.ready j a) (g k (Memᴰ.head refl) e j a);
          };
          sees = λ r. sees-only (st.sees r) (f k (Memᴰ.head refl) e r);
          free = λ r. free_only t s h d.2 k (st.free r);
        },
        ih,
      ))
      (λ e. rw e ih)
    where
      sees-only : Sees t h k → (observed t k ≡ 0) ⊎ (s (thread_of t (observed t k)) ≡ true) → Sees t (only t s h) k
      sees-only e c = last_write-kept t (object_of t k) (λ j. s (thread_of t j)) h (observed t k) e c
