-- Correct reordering and enabled event in the paper's words.
use Prim.Native.Nat.{ℕ, zero, suc, ◌≤◌}
use native.Mathlib.Omega.{arith}
use mathlib.Core.Path.{◌≡◌, refl, sym, ◌∙◌, ap}
use mathlib.Core.Logic.{inl, inr, ◌↔◌}
use mathlib.Core.Bool.{Bool}
use mathlib.Core.List.Memᴰ
use mathlib.Core.List.{List, [], ◌∷◌, ◌++◌, reverse, reverse_aux, reverse-reverse, reverse-append, append_assoc}
use lib.ListN.{length}
use lib.Dec.{eqb, leb}
use borrow.Author.Tests.{eqb-true, eqb-false, leb-true, leb-false}
use Rattle.model.specs.Trace.{Trace, Valid, read, write, thread_of, kind_of, object_of, does}
use Rattle.model.specs.Lists.{◌∈◌, up_to, before, numbers, own, just}
use Rattle.model.specs.Observed.{observed}
use Rattle.model.specs.Good.{WellFormed}
use Rattle.model.specs.Awaits.{Awaits, forked, joined}
use Rattle.model.specs.Reordering.{StandsAfter, CorrectReordering, EnabledAfter, Sees, Step, Correct, CorrectFrom}
use Rattle.model.specs.Cone.{Precedes}
use Rattle.model.proofs.Tests.{by_cases, true-just}
use Rattle.model.proofs.Lists.{keep-reverse, keep_append, behind, up_to_mem, nearest-none, none-nearest, mem_reverse, reverse_mem, reverse_split}
use Rattle.model.proofs.AwaitsExact.{awaits_valid, awaits_before}
use Rattle.model.proofs.Histories.{Legal, to_legal, of_legal, legal_valid, own_beginning, enabled_by, mem_enabled, enabled_out}

module _ (t : Trace) where
  -- ---- from the definition to the words

  step_at : (h σ : List ℕ) (k : ℕ) (τ : List ℕ) → CorrectFrom t h (σ ++ (k ∷ τ)) → Step t (reverse_aux σ h) k
  step_at h [] k τ c = c.0
  step_at h (x ∷ σ) k τ c = step_at (x ∷ h) σ k τ c.1

  -- the later part of a thread's events, latest first
  later : (c n m : ℕ) → m ≤ n → (xs : List ℕ) × (own t c (up_to n) ≡ xs ++ own t c (up_to m))
  later c zero m p = let z : m ≡ 0 = omega arith in ([], rw z refl)
  later c (suc n) m p =
      by_cases (leb m n)
      (λ e.
      let ih = later c n m (leb-true m n e) in
      by_cases (just c (thread_of t (suc n))) (λ q. (suc n ∷ ih.0, rw q (ap (λ (x : List ℕ). suc n ∷ x) ih.1))) (λ q. (ih.0, rw q ih.1)))
      (λ e. let q = leb-false m n e in let z : m ≡ suc n = omega arith in ([], rw z refl))

  module _ (ρ : List ℕ) (c : Correct t ρ) where
    at_place : (σ : List ℕ) (k : ℕ) → StandsAfter ρ σ k → Step t (reverse σ) k
    at_place σ k s = step_at [] σ k s.0 (rw s.1 at c)

    valid_in : (k : ℕ) → k ∈ ρ → Valid t k
    valid_in k m = legal_valid t (reverse ρ) (to_legal t ρ c) k (reverse_mem m)

    begins : (d : ℕ) → (rest : List ℕ) × (own t d (numbers t) ≡ own t d ρ ++ rest)
    begins d =
        let b = own_beginning t ρ c d in
        let x = later d (length t) b.0 b.1 in (
          reverse x.0,
          keep-reverse (λ k. just d (thread_of t k)) (up_to (length t)) ∙ ap reverse x.1 ∙ reverse-append x.0 (own t d (up_to b.0)) ∙ ap (λ (l : List ℕ). l ++ reverse x.0) (sym b.2),
        )

    correct_words : CorrectReordering t ρ
    correct_words = record {
      events = valid_in;
      once = λ σ k s m. enabled_out t (reverse σ) k (at_place σ k s).enabled.next (reverse_mem m);
      beginnings = begins;
      locks = λ σ k s. (at_place σ k s).free;
      reads = λ σ k s r ne. (at_place σ k s).sees r;
      start_reads = λ σ k s r z j m.
          none-nearest (λ i. does t write (object_of t k) i) (reverse σ) (λ i n. (valid_in i (rw s.1 (Memᴰ.append_left (k ∷ s.0) (mem_reverse i σ n)))).positive)
          ((at_place σ k s).sees r ∙ z) j (reverse_mem m);
      forks = λ σ k s j f o. mem_reverse j σ ((at_place σ k s).enabled.ready j (forked f o));
      joins = λ σ k s f j v o. mem_reverse j σ ((at_place σ k s).enabled.ready j (joined f v o));
    }

  -- ---- and back

  module _ (ρ : List ℕ) (w : CorrectReordering t ρ) where
    next-at : (σ : List ℕ) (k : ℕ) → StandsAfter ρ σ k → own t (thread_of t k) (reverse σ) ≡ own t (thread_of t k) (before k)
    next-at σ k s =
        let c = thread_of t k in
        let p : ℕ → Bool = λ j. just c (thread_of t j) in
        let b = w.beginnings c in
        let τ = own t c s.0 ++ b.0 in
        let f : own t c ρ ≡ own t c σ ++ (k ∷ own t c s.0) = ap (own t c) s.1 ∙ keep_append p σ (k ∷ s.0) ∙ rw (true-just c (thread_of t k) refl) in
        let d : own t c ρ ++ b.0 ≡ own t c σ ++ (k ∷ τ) = ap (λ (l : List ℕ). l ++ b.0) f ∙ append_assoc (own t c σ) (k ∷ own t c s.0) b.0 in
        let e : reverse τ ++ (k ∷ reverse (own t c σ)) ≡ own t c (up_to (length t)) =
        sym (reverse_split (own t c σ) k τ) ∙ ap reverse (sym d ∙ sym b.1) ∙ sym (keep-reverse p (numbers t)) ∙ ap (own t c) (reverse-reverse (up_to (length t))) in
        keep-reverse p σ ∙ behind p (length t) (reverse τ) k (reverse (own t c σ)) e

    sees-at : (σ : List ℕ) (k : ℕ) → StandsAfter ρ σ k → kind_of t k ≡ read → Sees t (reverse σ) k
    sees-at σ k s r =
        by_cases (eqb (observed t k) 0)
        (λ e.
        let z = eqb-true (observed t k) 0 e in
        nearest-none (λ i. does t write (object_of t k) i) (reverse σ) (λ j m. w.start_reads σ k s r z j (mem_reverse j σ m)) ∙ sym z)
        (λ e. w.reads σ k s r (eqb-false (observed t k) 0 e))

    ready_at : (σ : List ℕ) (k : ℕ) → StandsAfter ρ σ k → (j : ℕ) → Awaits t k j → j ∈ reverse σ
    ready_at σ k s j (forked f o) = reverse_mem (w.forks σ k s j f o)
    ready_at σ k s j (joined f v o) = reverse_mem (w.joins σ k s f j v o)

    words-from : (τ σ : List ℕ) → ρ ≡ σ ++ τ → CorrectFrom t (reverse σ) τ
    words-from [] σ e = tt
    words-from (k ∷ τ) σ e =
        let s : StandsAfter ρ σ k = (τ, e) in
        let next = words-from τ (σ ++ (k ∷ [])) (e ∙ sym (append_assoc σ (k ∷ []) τ)) in (
          record {
            enabled = record {
              next = record { valid = w.events k (rw e (Memᴰ.append_right σ (Memᴰ.head refl))); turn = next-at σ k s };
              ready = ready_at σ k s;
            };
            sees = sees-at σ k s;
            free = w.locks σ k s;
          },
          rw (reverse_split σ k []) at next,
        )

  -- `Correct` is the paper's correct reordering, rule by rule
  pub correct_rule_by_rule : (ρ : List ℕ) → Correct t ρ ↔ CorrectReordering t ρ
  correct_rule_by_rule ρ = (correct_words ρ, (λ w. words-from ρ w ρ [] refl))

  -- after a correct reordering an event is enabled exactly when it is not in the list and all that must stand before it are: the earlier ones of its thread, and the fork of that
  pub enabled_in_words : (ρ : List ℕ) → Correct t ρ → (k : ℕ) → EnabledAfter t ρ k ↔ (Valid t k × ¬ (k ∈ ρ) × ((j : ℕ) → Precedes t j k → j ∈ ρ))
  enabled_in_words ρ c k = (
    (λ e. (
      e.next.valid,
      (λ m. enabled_out t (reverse ρ) k e.next (reverse_mem m)),
      precedes_in e,
    )),
    (λ x.
        enabled_by t (reverse ρ) (to_legal t ρ c) k x.0 (λ m. x.1 (mem_reverse k ρ m))
        (λ j p q r. reverse_mem (x.2 j (inl (record { first = p; less = q; thread = r }))))
        (λ j a. reverse_mem (x.2 j (inr a)))),
  )
    where
      precedes_in : EnabledAfter t ρ k → (j : ℕ) → Precedes t j k → j ∈ ρ
      precedes_in e j (inl x) = mem_reverse j ρ (mem_enabled t (reverse ρ) k e.next j x.first x.less x.thread)
      precedes_in e j (inr a) = mem_reverse j ρ (e.ready j a)

  -- the trace is a correct reordering of itself
  pub trace_correct : WellFormed t → Correct t (numbers t)
  trace_correct w = of_legal t (up_to (length t)) (go (length t) (omega arith))
    where
      go : (m : ℕ) → m ≤ length t → Legal t (up_to m)
      go zero p = tt
      go (suc m) p =
          let v : Valid t (suc m) = record { positive = omega arith; bounded = p } in (
            record {
              enabled = record {
                next = record { valid = v; turn = refl };
                ready = λ j a. let z = awaits_before t w (suc m) j v a in up_to_mem m j (awaits_valid t (suc m) j a).positive (omega arith);
              };
              sees = λ r. unfold observed in refl;
              free = w.taken_free (suc m) v;
            },
            go m (omega arith),
          )
