-- Where all events are by the roots' threads, and those outside the moved thread by one other, as in a trace by at most two threads,
-- the roots are reported exactly when some correct reordering, of the trace or of an extension, brings all of them next.
use Prim.Native.Nat.{ℕ}
use native.Mathlib.Omega.{arith}
use mathlib.Core.Path.{◌≡◌, sym, ◌∙◌}
use mathlib.Core.Logic.{inl, inr, ◌↔◌}
use mathlib.Core.Bool.{Bool, true}
use mathlib.Core.List.{List, [], reverse, append-nil}
use lib.ListN.{length}
use lib.Dec.{eqb}
use borrow.Author.Tests.{eqb-true, eqb-false, eq-eqb}
use Rattle.model.specs.Trace.{Trace, Valid, thread_of}
use Rattle.model.specs.Lists.{◌∈◌, TwoThreads, OnlyBeside, any_in, only, own, just, all_but, pair}
use Rattle.model.specs.Observed.{observed}
use Rattle.model.specs.Good.{Good}
use Rattle.model.specs.Awaits.{Awaits}
use Rattle.model.specs.Reordering.{Enabled, Correct}
use Rattle.model.specs.Cone.{InCone, Brings, Earlier, AllInside, root, brought, precedes, observes, closes}
use Rattle.model.specs.Race.{Apart, Candidate, Increasing, Reported, ReportedWith}
use Rattle.model.specs.Extension.{Extension, TogetherInExtension, PredictableInExtension}
use Rattle.model.proofs.Tests.{by_cases, true-just, all_but-true}
use Rattle.model.proofs.Lists.{any_mem, mem_any, mem_only, only_mem, keep-keep, mem_reverse, reverse_mem, increasing_keep}
use Rattle.model.proofs.AwaitsExact.{awaits_valid}
use Rattle.model.proofs.Histories.{Legal, to_legal, of_legal, legal_valid, own_increasing, enabled_mem, mem_enabled, observed_range, legal_observed, legal_ready}
use Rattle.model.proofs.Locks.{locked, legal_only}
use Rattle.model.proofs.Agree.{awaits_agree, legal_agree, extension_agree, extension_thread, extension_closed, trace_closed}
use Rattle.model.proofs.Threads.{apart_same, two_inside, two_beside}
use Rattle.model.proofs.OneShown.{candidate_brings}
use Rattle.model.proofs.ConeEvents.{earlier_valid}

-- the set of the roots' threads
unfoldable among : Trace → List ℕ → ℕ → Bool
among t R c = any_in (λ r. eqb (thread_of t r) c) R

among-true : (t : Trace) (R : List ℕ) (c : ℕ) → among t R c ≡ true → (r : ℕ) × (r ∈ R) × (thread_of t r ≡ c)
unfolding among
among-true t R c e = let x = mem_any (λ r. eqb (thread_of t r) c) R e in (x.0, x.1, eqb-true _ _ x.2)

true-among : (t : Trace) (R : List ℕ) (c r : ℕ) → r ∈ R → thread_of t r ≡ c → among t R c ≡ true
unfolding among
true-among t R c r m e = any_mem (λ r. eqb (thread_of t r) c) m (eq-eqb _ _ e)

-- k stands before a root in its thread
abbrev Near : Trace → List ℕ → ℕ → Type 0
Near t R k = (r : ℕ) × (r ∈ R) × Earlier t k r

near_earlier : (t : Trace) (R : List ℕ) (j k : ℕ) → Earlier t j k → Near t R k → Near t R j
near_earlier t R j k e x =
    let p = x.2 in
    (x.0, x.1, record { first = e.first; less = let y = e.less in let z = p.less in omega arith; thread = e.thread ∙ p.thread })

-- where all events outside the moved thread are by one thread, their order asks nothing
order_kept : (t : Trace) (m d : ℕ) → OnlyBeside t m d → (ρ : List ℕ) → Correct t ρ → Increasing (only t (all_but m) ρ)
order_kept t m d beside ρ c =
    let v : (k : ℕ) → k ∈ ρ → Valid t k = λ k n. legal_valid t (reverse ρ) (to_legal t ρ c) k (reverse_mem n) in
    let e : only t (all_but m) (own t d ρ) ≡ only t (all_but m) ρ =
    keep-keep (λ k. all_but m (thread_of t k)) (λ k. just d (thread_of t k)) ρ (λ k n p. true-just d (thread_of t k) (beside k (v k n) (all_but-true m (thread_of t k) p))) in
    rw e at (increasing_keep (λ k. all_but m (thread_of t k)) (own t d ρ) (own_increasing t d ρ c))

-- Let a history of an extension t' have all roots enabled. What it has of the roots' threads is a candidate.
module _ (t : Trace) (R : List ℕ) (c : Apart t R) (inside : AllInside t R) (t' : Trace) (long : Extension t t')
    (h : List ℕ) (l : Legal t' h) (en : (r : ℕ) → r ∈ R → Enabled t' h r) where
  abbrev s : ℕ → Bool
  s = among t R

  abbrev kept : List ℕ
  kept = only t' s h

  before_root : (r : ℕ) → r ∈ R → (k : ℕ) → k ∈ h → thread_of t' k ≡ thread_of t r → Earlier t k r
  before_root r i k m p =
      let y = (c.valid r i).bounded in
      let z = enabled_mem t' h r (en r i).next k m (p ∙ extension_thread t t' long r y) in
      record { first = z.0; less = z.1; thread = extension_thread t t' long k (omega arith) ∙ p }

  root_before : (r : ℕ) → r ∈ R → (k : ℕ) → Earlier t k r → k ∈ h
  root_before r i k x =
      let y = (c.valid r i).bounded in
      let z = x.less in
      mem_enabled t' h r (en r i).next k x.first x.less (sym (extension_thread t t' long k (omega arith)) ∙ x.thread ∙ extension_thread t t' long r y)

  near_valid : (k : ℕ) → Near t R k → Valid t k
  near_valid k x = earlier_valid t k x.0 (c.valid x.0 x.1) x.2

  -- the history's events of the roots' threads are those before the roots
  mem_near : (k : ℕ) → k ∈ h → s (thread_of t' k) ≡ true → Near t R k
  mem_near k m p = let x = among-true t R (thread_of t' k) p in (x.0, x.1, before_root x.0 x.1 k m (sym x.2))

  kept_near : (k : ℕ) → k ∈ kept → Near t R k
  kept_near k m = let x = mem_only t' s k h m in mem_near k x.0 x.1

  known : (k : ℕ) → Valid t k → s (thread_of t' k) ≡ true
  known k v = let x = inside k v in true-among t R (thread_of t' k) x.0 x.1 (x.2 ∙ extension_thread t t' long k v.bounded)

  near_kept : (k : ℕ) → Near t R k → k ∈ kept
  near_kept k x = only_mem t' s (root_before x.0 x.1 k x.2) (known k (near_valid k x))

  kept_legal : Legal t kept
  kept_legal =
      legal_agree t' t (length t) (λ k p. sym (extension_agree t t' long k p)) (trace_closed t t' long) kept
      (λ k m. (near_valid k (kept_near k m)).bounded) (λ k m. near_valid k (kept_near k m))
      (legal_only t' s h l (locked t' long.good.well_formed h l) (λ k m p r.
      by_cases (eqb (observed t' k) 0) (λ e. inl (eqb-true (observed t' k) 0 e)) (λ e.
      let w = observed_range t' k (eqb-false (observed t' k) 0 e) in
      let v = (near_valid k (mem_near k m p)).bounded in
      inr (known (observed t' k) (record { positive = w.0; bounded = omega arith }))))
      (λ k m p j a. let v = near_valid k (mem_near k m p) in known j (extension_closed t t' long k j v.positive v.bounded a).1))

  -- what an enabled root waits for is in it
  awaited_kept : (r j : ℕ) → r ∈ R → Awaits t r j → j ∈ kept
  awaited_kept r j i a =
      let v = c.valid r i in
      let b = awaits_agree t' t (length t) (λ k p. sym (extension_agree t t' long k p)) (trace_closed t t' long) r j v.positive v.bounded a in
      only_mem t' s ((en r i).ready j b) (known j (awaits_valid t r j a))

  brings-kept : (k j : ℕ) → k ∈ kept → Brings t R k j → j ∈ kept
  brings-kept k j m (precedes (inl e)) = near_kept j (near_earlier t R j k e (kept_near k m))
  brings-kept k j m (precedes (inr a)) = legal_ready t kept kept_legal k m j a
  brings-kept k j m (observes r o ne) = rw o at (legal_observed t kept kept_legal k m r (rw o ne))
  brings-kept k j m (closes r out o ne) = let x = inside k (near_valid k (kept_near k m)) in absurd (out x.0 x.1 x.2)

  cone-kept : {k : ℕ} → InCone t R k → k ∈ kept
  cone-kept {k} (root {r = r} m (inl e)) = near_kept k (r, m, e)
  cone-kept {k} (root {r = r} m (inr a)) = awaited_kept r k m a
  cone-kept {k = j} (brought {k = k} x b) = brings-kept k j (cone-kept x) b

  root_not_near : (r : ℕ) → r ∈ R → Near t R r → ⊥
  root_not_near r m x = let e = apart_same t R c.threads r x.0 m x.1 x.2.thread in let y = x.2.less in omega arith

  kept_candidate : (m d : ℕ) → OnlyBeside t m d → Candidate t R m (reverse kept)
  kept_candidate m d beside = record {
    roots_out = λ r i x. root_not_near r i (kept_near r (cone-kept x));
    correct = of_legal t kept kept_legal;
    members = λ k. ((λ i. let x = kept_near k (mem_reverse k kept i) in root x.1 (inl x.2)), (λ x. reverse_mem (cone-kept x)));
    order = order_kept t m d beside (reverse kept) (of_legal t kept kept_legal);
  }

pub empty_extension : (t : Trace) → Good t → Extension t t
empty_extension t g = record { added = []; same = sym (append-nil t); good = g }

pub roots_exact : (t : Trace) → Good t → (R : List ℕ) → Apart t R → AllInside t R → (m d : ℕ) → OnlyBeside t m d → ReportedWith t R m ↔ TogetherInExtension t R
roots_exact t g R c inside m d beside = (
  (λ r. (t, empty_extension t g, (r.0, candidate_brings t R m r.0 c.valid r.1))),
  (λ p.
      let ρ = p.2.0 in
      let b = p.2.1 in
      (_, kept_candidate t R c inside p.0 p.1 (reverse ρ) (to_legal p.0 ρ b.correct) b.enabled m d beside)),
)

pub two_threads_exact : (t : Trace) → Good t → TwoThreads t → (a b : ℕ) → Apart t (pair a b) → Reported t a b ↔ PredictableInExtension t a b
two_threads_exact t g two a b c = roots_exact t g (pair a b) c (two_inside t a b two c) (thread_of t a) (thread_of t b) (two_beside t a b two c)
