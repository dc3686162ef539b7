-- Where all events are by the roots' threads, as in a trace by at most two threads, the candidates of the roots, so the verdict and the one shown,
-- are those of each extension. For any trace a candidate brings all roots next in each extension.
use Prim.Native.Nat.{ℕ, ◌≤◌}
use native.Mathlib.Omega.{arith}
use mathlib.Core.Path.{◌≡◌, refl, sym, ◌∙◌}
use mathlib.Core.Logic.{inl, inr, ⊎_elim, ◌↔◌}
use mathlib.Core.List.Memᴰ
use mathlib.Core.List.{List, [], ◌∷◌, reverse, reverse-reverse}
use lib.ListN.{length}
use Rattle.model.specs.Trace.{Trace, Valid, thread_of}
use Rattle.model.specs.Lists.{◌∈◌, TwoThreads, all_but, pair}
use Rattle.model.specs.Reordering.{BringsAll}
use Rattle.model.specs.Cone.{InCone, Brings, Earlier, Precedes, Inside, AllInside, root, brought, precedes, observes, closes}
use Rattle.model.specs.Race.{Apart, Candidate, Reported, Preferred, Shown, Witness}
use Rattle.model.specs.Extension.{Extension}
use Rattle.model.proofs.Lists.{mem_reverse}
use Rattle.model.proofs.Histories.{to_legal, of_legal, observed_range}
use Rattle.model.proofs.Agree.{Agree, Closed, Within, same_thread, same_kind, awaits_agree, legal_agree, only_agree, observed_agree, extension_agree, extension_closed, trace_closed, extension_thread, extended_valid, extended_correct, extended_next}
use Rattle.model.proofs.Threads.{in_pair_a, two_inside}
use Rattle.model.proofs.OneShown.{candidate_brings}

-- u and v agree up to n, where all events are by the roots' threads
record SameStart (u v : Trace) (n : ℕ) (R : List ℕ) : Type 0 where
  agree : Agree u v n
  low : (r : ℕ) → r ∈ R → (1 ≤ r) × (r ≤ n)
  inside : (k : ℕ) → 1 ≤ k → k ≤ n → Inside u R k
  valid : (k : ℕ) → 1 ≤ k → k ≤ n → Valid v k
  closed : Closed v u n

module _ (u v : Trace) (n : ℕ) (R : List ℕ) (p : SameStart u v n R) where
  earlier_agree : (j k : ℕ) → k ≤ n → Earlier u j k → Earlier v j k
  earlier_agree j k l e = record {
    first = e.first;
    less = e.less;
    thread = sym (same_thread u v n p.agree j (let z = e.less in omega arith)) ∙ e.thread ∙ same_thread u v n p.agree k l;
  }

  precedes_agree : (j k : ℕ) → 1 ≤ k → k ≤ n → Precedes u j k → (1 ≤ j) × (j ≤ n) × Precedes v j k
  precedes_agree j k f l (inl e) = (e.first, (let z = e.less in omega arith), inl (earlier_agree j k l e))
  precedes_agree j k f l (inr a) =
      let x = p.closed k j f l a in (x.1.positive, x.0, inr (awaits_agree v u n (λ i q. sym (p.agree i q)) p.closed k j f l a))

  brings_agree : (k j : ℕ) → 1 ≤ k → k ≤ n → Brings u R k j → (1 ≤ j) × (j ≤ n) × Brings v R k j
  brings_agree k j f l (precedes e) = let x = precedes_agree j k f l e in (x.0, x.1, precedes x.2)
  brings_agree k j f l (observes r o ne) =
      let m = observed_range u k (rw o ne) in
      (omega arith, omega arith, observes (sym (same_kind u v n p.agree k l) ∙ r) (sym (observed_agree u v n p.agree k l) ∙ o) ne)
  brings_agree k j f l (closes r out o ne) = let x = p.inside k f l in absurd (out x.0 x.1 x.2)

  cone_agree : {k : ℕ} → InCone u R k → (1 ≤ k) × (k ≤ n) × InCone v R k
  cone_agree {k} (root {r = r} m e) = let l = p.low r m in let x = precedes_agree k r l.0 l.1 e in (x.0, x.1, root m x.2)
  cone_agree {k = j} (brought {k = k} x b) =
      let ih = cone_agree x in let y = brings_agree k j ih.0 ih.1 b in (y.0, y.1, brought ih.2 y.2)

  -- the preference depends only on the threads of the lists' events
  preferred_agree : (m : ℕ) (ρ τ : List ℕ) → Within n ρ → Within n τ → Preferred u m ρ τ → Preferred v m ρ τ
  preferred_agree m [] τ i j f = f
  preferred_agree m (x ∷ ρ) [] i j f = f
  preferred_agree m (x ∷ ρ) (y ∷ τ) i j f =
      ⊎_elim
      (λ e. inl (e.0, preferred_agree m ρ τ (λ k z. i k (Memᴰ.tail z)) (λ k z. j k (Memᴰ.tail z)) e.1))
      (λ e. inr (
        (λ z. e.0 (same_thread u v n p.agree x (i x (Memᴰ.head refl)) ∙ z)),
        sym (same_thread u v n p.agree y (j y (Memᴰ.head refl))) ∙ e.1,
      ))
      f

  within : (m : ℕ) (ρ : List ℕ) → Candidate u R m ρ → Within n ρ
  within m ρ c k x = (cone_agree ((c.members k).0 x)).1

-- candidates of the one are candidates of the other, and so is the one shown
module _ (u v : Trace) (n : ℕ) (R : List ℕ) (p : SameStart u v n R) (q : SameStart v u n R) where
  candidate_agree : (m : ℕ) (ρ : List ℕ) → Candidate u R m ρ → Candidate v R m ρ
  candidate_agree m ρ c =
      let w : (k : ℕ) → k ∈ reverse ρ → (1 ≤ k) × (k ≤ n) = λ k x. let y = cone_agree u v n R p ((c.members k).0 (mem_reverse k ρ x)) in (y.0, y.1) in
      let back : (k : ℕ) → InCone v R k → InCone u R k = λ k x. (cone_agree v u n R q x).2 in
      record {
        roots_out = λ r x y. c.roots_out r x (back r y);
        correct = rw (reverse-reverse ρ) at (of_legal v (reverse ρ)
            (legal_agree u v n p.agree q.closed (reverse ρ) (λ k x. (w k x).1) (λ k x. p.valid k (w k x).0 (w k x).1) (to_legal u ρ c.correct)));
        members = λ k. ((λ x. (cone_agree u v n R p ((c.members k).0 x)).2), (λ x. (c.members k).1 (back k x)));
        order = rw (only_agree u v n p.agree (all_but m) ρ (within u v n R p m ρ c)) at c.order;
      }

module _ (u v : Trace) (n : ℕ) (R : List ℕ) (p : SameStart u v n R) (q : SameStart v u n R) where
  shown_agree : (m : ℕ) (ρ : List ℕ) → Shown u R m ρ → Shown v R m ρ
  shown_agree m ρ s = record {
    candidate = candidate_agree u v n R p q m ρ s.candidate;
    chosen = λ τ d.
        let d' = candidate_agree v u n R q p m τ d in
        ⊎_elim (λ e. inl e) (λ f. inr (preferred_agree u v n R p m ρ τ (within u v n R p m ρ s.candidate) (within u v n R p m τ d') f)) (s.chosen τ d');
  }

-- ---- a trace and an extension

module _ (t : Trace) (R : List ℕ) (v : (r : ℕ) → r ∈ R → Valid t r) (inside : AllInside t R) (t' : Trace) (long : Extension t t') where
  low : (r : ℕ) → r ∈ R → (1 ≤ r) × (r ≤ length t)
  low r m = let x = v r m in (x.positive, x.bounded)

  up : SameStart t t' (length t) R
  up = record {
    agree = extension_agree t t' long;
    low = low;
    inside = λ k p q. inside k (record { positive = p; bounded = q });
    valid = λ k p q. extended_valid t t' long k (record { positive = p; bounded = q });
    closed = trace_closed t t' long;
  }

  down : SameStart t' t (length t) R
  down = record {
    agree = λ k p. sym (extension_agree t t' long k p);
    low = low;
    inside = λ k p q.
        let x = inside k (record { positive = p; bounded = q }) in (x.0, x.1, sym (extension_thread t t' long x.0 (low x.0 x.1).1) ∙ x.2 ∙ extension_thread t t' long k q);
    valid = λ k p q. record { positive = p; bounded = q };
    closed = extension_closed t t' long;
  }

  pub same_candidates : (m : ℕ) (ρ : List ℕ) → Candidate t R m ρ ↔ Candidate t' R m ρ
  same_candidates m ρ = (candidate_agree t t' (length t) R up down m ρ, candidate_agree t' t (length t) R down up m ρ)

  pub same-shown : (m : ℕ) (ρ : List ℕ) → Shown t R m ρ ↔ Shown t' R m ρ
  same-shown m ρ = (shown_agree t t' (length t) R up down m ρ, shown_agree t' t (length t) R down up m ρ)

-- a pair in a trace by at most two threads
module _ (t : Trace) (two : TwoThreads t) (a b : ℕ) (c : Apart t (pair a b)) (t' : Trace) (long : Extension t t') where
  moved : thread_of t a ≡ thread_of t' a
  moved = extension_thread t t' long a (c.valid a (in_pair_a a b)).bounded

  pub same_verdict : Reported t a b ↔ Reported t' a b
  same_verdict =
      let x = same_candidates t (pair a b) c.valid (two_inside t a b two c) t' long (thread_of t a) in
      rw (← moved) ((λ r. (r.0, (x r.0).0 r.1)), (λ r. (r.0, (x r.0).1 r.1)))

  pub same_witness : (ρ : List ℕ) → Witness t a b ρ ↔ Witness t' a b ρ
  same_witness ρ = rw (← moved) (same-shown t (pair a b) c.valid (two_inside t a b two c) t' long (thread_of t a) ρ)

-- any number of threads: a candidate of the trace brings all roots next in each extension
pub candidate_stays : (t t' : Trace) → Extension t t' → (R : List ℕ) → ((r : ℕ) → r ∈ R → Valid t r) → (m : ℕ) (ρ : List ℕ) → Candidate t R m ρ → BringsAll t' ρ R
candidate_stays t t' long R v m ρ d =
    let x = candidate_brings t R m ρ v d in
    record { correct = extended_correct t t' long ρ x.correct; enabled = λ r i. extended_next t t' long ρ x.correct r (x.enabled r i) }
