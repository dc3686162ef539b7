-- Correct reorderings read from the latest event back: the beginnings of the threads, when an event is enabled, and what reads see.
use Prim.Native.Nat.{ℕ, zero, suc, ◌≤◌, ◌<◌, zero-le}
use native.Mathlib.Omega.{arith}
use mathlib.Core.Path.{◌≡◌, refl, sym, ◌∙◌, ap}
use mathlib.Core.Logic.{◌≢◌, ◌⊎◌}
use mathlib.Core.Bool.{Bool, true}
use mathlib.Core.List.Memᴰ
use mathlib.Core.List.{List, [], ◌∷◌, reverse, reverse_aux, reverse-reverse}
use lib.ListN.{length}
use lib.Dec.{leb}
use borrow.Author.Tests.{leb-true, leb-false}
use Rattle.model.specs.Trace.{Trace, Valid, read, write, thread_of, kind_of, object_of, does}
use Rattle.model.specs.Lists.{◌∈◌, up_to, before, keep, own, just}
use Rattle.model.specs.Observed.{last_write, observed}
use Rattle.model.specs.Reordering.{Next, Ready, Enabled, Sees, Step, Correct, CorrectFrom}
use Rattle.model.specs.Race.{Increasing}
use Rattle.model.proofs.Tests.{by_cases, in_cons, just-true, true-just, false-just}
use Rattle.model.proofs.Lists.{nearest_mem, nearest-kept, keep-reverse, mem_own, own_mem, up_to_mem, mem_up_to, mem_before, before_mem, increasing_reverse}

-- the history of a correct reordering
abbrev pub Legal : Trace → List ℕ → Type 0
Legal t [] = Unit {0}
Legal t (k ∷ h) = Step t h k × Legal t h

legal_correct : (t : Trace) (h ρ : List ℕ) → Legal t (reverse_aux ρ h) → CorrectFrom t h ρ × Legal t h
legal_correct t h [] l = (tt, l)
legal_correct t h (k ∷ ρ) l = let r = legal_correct t (k ∷ h) ρ l in ((r.1.0, r.0), r.1.1)

correct_legal : (t : Trace) (h ρ : List ℕ) → CorrectFrom t h ρ → Legal t h → Legal t (reverse_aux ρ h)
correct_legal t h [] c l = l
correct_legal t h (k ∷ ρ) c l = correct_legal t (k ∷ h) ρ c.1 (c.0, l)

pub to_legal : (t : Trace) (ρ : List ℕ) → Correct t ρ → Legal t (reverse ρ)
to_legal t ρ c = correct_legal t [] ρ c tt

pub of_legal : (t : Trace) (h : List ℕ) → Legal t h → Correct t (reverse h)
of_legal t h l = (legal_correct t [] (reverse h) (rw (reverse-reverse h) l)).0

module _ (t : Trace) where
  pub legal_valid : (h : List ℕ) → Legal t h → (k : ℕ) → k ∈ h → Valid t k
  legal_valid [] l k m = absurd (Memᴰ.not-nil m)
  legal_valid (j ∷ h) l k m = in_cons m (λ e. rw e l.0.enabled.next.valid) (λ n. legal_valid h l.1 k n)

  -- a thread's events up to one of its own
  own_here : (c k : ℕ) → 1 ≤ k → thread_of t k ≡ c → own t c (up_to k) ≡ k ∷ own t c (before k)
  own_here c zero p e = absurd (omega arith)
  own_here c (suc k) p e = rw (true-just c (thread_of t (suc k)) e) refl

  -- each thread's events in it are the beginning of that thread's events
  pub beginning : (h : List ℕ) → Legal t h → (c : ℕ) → (m : ℕ) × (m ≤ length t) × (own t c h ≡ own t c (up_to m))
  beginning [] l c = (0, zero-le, refl)
  beginning (k ∷ h) l c =
      let ih = beginning h l.1 c in
      by_cases (just c (thread_of t k))
      (λ e.
      let p : thread_of t k ≡ c = just-true c (thread_of t k) e in
      let v = l.0.enabled.next.valid in
      let n : own t c h ≡ own t c (before k) = rw p at l.0.enabled.next.turn in
      (k, v.bounded, rw e (ap (λ (x : List ℕ). k ∷ x) n ∙ sym (own_here c k v.positive p))))
      (λ e. (ih.0, ih.1, rw e ih.2))

  pub own_beginning : (ρ : List ℕ) → Correct t ρ → (c : ℕ) → (m : ℕ) × (m ≤ length t) × (own t c ρ ≡ reverse (own t c (up_to m)))
  own_beginning ρ d c =
      let b = beginning (reverse ρ) (to_legal t ρ d) c in
      (b.0, b.1, ap (own t c) (sym (reverse-reverse ρ)) ∙ keep-reverse (λ k. just c (thread_of t k)) (reverse ρ) ∙ ap reverse b.2)

  -- in the trace's order
  pub own_increasing : (c : ℕ) (ρ : List ℕ) → Correct t ρ → Increasing (own t c ρ)
  own_increasing c ρ d = let b = own_beginning ρ d c in rw b.2 (increasing_reverse (λ k. just c (thread_of t k)) b.0)

  -- no event of the thread between m and a
  quiet : (c m a : ℕ) → m ≤ a → ((k : ℕ) → m < k → k ≤ a → thread_of t k ≢ c) → own t c (up_to m) ≡ own t c (up_to a)
  quiet c m zero p f = let e : m ≡ 0 = omega arith in rw e refl
  quiet c m (suc a) p f =
      by_cases (leb m a)
      (λ e.
      let q = leb-true m a e in
      rw (false-just c (thread_of t (suc a)) (f (suc a) (omega arith) (omega arith))) (quiet c m a q (λ k u v. f k u (omega arith))))
      (λ e. let q = leb-false m a e in let z : m ≡ suc a = omega arith in rw z refl)

  -- after a legal history that lacks a and has all earlier events of its thread a is next, and enabled
  next_by : (h : List ℕ) → Legal t h → (a : ℕ) → Valid t a → ¬ (a ∈ h) → ((k : ℕ) → 1 ≤ k → k < a → thread_of t k ≡ thread_of t a → k ∈ h) → Next t h a
  next_by h l zero v out all = absurd (let z = v.positive in omega arith)
  next_by h l (suc a) v out all =
      let c = thread_of t (suc a) in
      let b = beginning h l c in
      let m = b.0 in
      let low : m < suc a =
      by_cases (leb (suc a) m)
      (λ e. absurd (out (mem_own t c (suc a) h (rw b.2 (own_mem t c (up_to_mem m (suc a) v.positive (leb-true _ _ e)) refl))).0))
      (λ e. leb-false (suc a) m e) in
      record {
        valid = v;
        turn = b.2 ∙ quiet c m a (omega arith) (λ k u w e.
            let x : k ∈ own t c h = own_mem t c (all k (omega arith) (omega arith) e) e in
            let y = mem_up_to m k (mem_own t c k (up_to m) (rw b.2 at x)).0 in
            let z : ⊥ = omega arith in z);
      }

  pub enabled_by : (h : List ℕ) → Legal t h → (a : ℕ) → Valid t a → ¬ (a ∈ h) → ((k : ℕ) → 1 ≤ k → k < a → thread_of t k ≡ thread_of t a → k ∈ h) → Ready t h a → Enabled t h a
  enabled_by h l a v out all ready = record { next = next_by h l a v out all; ready = ready }

  -- the members of a next event's thread are the events before it
  pub enabled_mem : (h : List ℕ) (a : ℕ) → Next t h a → (k : ℕ) → k ∈ h → thread_of t k ≡ thread_of t a → (1 ≤ k) × (k < a)
  enabled_mem h a e k m p =
      let x : k ∈ own t (thread_of t a) h = own_mem t (thread_of t a) m p in
      mem_before a k (mem_own t (thread_of t a) k (before a) (rw e.turn at x)).0

  pub mem_enabled : (h : List ℕ) (a : ℕ) → Next t h a → (k : ℕ) → 1 ≤ k → k < a → thread_of t k ≡ thread_of t a → k ∈ h
  mem_enabled h a e k p q r = (mem_own t (thread_of t a) k h (rw e.turn (own_mem t (thread_of t a) (before_mem a k p q) r))).0

  -- so it is not in the history
  pub enabled_out : (h : List ℕ) (a : ℕ) → Next t h a → ¬ (a ∈ h)
  enabled_out h a e m = let z = enabled_mem h a e a m refl in omega arith

  -- a legal history has what its events wait for
  pub legal_ready : (h : List ℕ) → Legal t h → (k : ℕ) → k ∈ h → Ready t h k
  legal_ready [] l k m j a = absurd (Memᴰ.not-nil m)
  legal_ready (i ∷ h) l k m j a =
      Memᴰ.tail (in_cons m (λ e. l.0.enabled.ready j (rw e at a)) (λ n. legal_ready h l.1 k n j a))

  -- ---- reads

  pub last_write_mem : (x : ℕ) (h : List ℕ) → last_write t x h ≢ 0 → last_write t x h ∈ h
  last_write_mem x h ne = nearest_mem (λ k. does t write x k) h ne

  -- where some events are left out, the last write stays if it is kept, and so does that there is none
  pub last_write-kept : (x : ℕ) (q : ℕ → Bool) (h : List ℕ) (o : ℕ) → last_write t x h ≡ o → (o ≡ 0) ⊎ (q o ≡ true) → last_write t x (keep q h) ≡ o
  unfolding does
  last_write-kept x q h o e c = nearest-kept (λ k. does t write x k) q refl h o e c

  -- an observed write comes before the read
  pub observed_range : (k : ℕ) → observed t k ≢ 0 → (1 ≤ observed t k) × (observed t k < k)
  unfolding observed
  observed_range k ne = mem_before k (observed t k) (last_write_mem (object_of t k) (before k) ne)

  -- a legal history has what its reads observed
  pub legal_observed : (h : List ℕ) → Legal t h → (k : ℕ) → k ∈ h → kind_of t k ≡ read → observed t k ≢ 0 → observed t k ∈ h
  legal_observed [] l k m r ne = absurd (Memᴰ.not-nil m)
  legal_observed (j ∷ h) l k m r ne =
      Memᴰ.tail (in_cons m
      (λ e.
      let s : Sees t h j = l.0.sees (rw e at r) in
      let o : observed t k ≡ last_write t (object_of t j) h = ap (observed t) e ∙ sym s in
      Memᴰ.cast o (last_write_mem (object_of t j) h (λ z. ne (o ∙ z))))
      (λ n. legal_observed h l.1 k n r ne))
