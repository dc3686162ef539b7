-- The next last release of a lock; what the lists of the passes know at the start, and after each event.
use Prim.Native.Nat.{ℕ, zero, suc, ◌+◌, ◌-◌, ◌≤◌}
use native.Mathlib.Omega.{arith}
use native.Mathlib.Numerals.{add-one}
use mathlib.Core.Path.{◌≡◌, refl, sym, ◌∙◌, ap, subst}
use mathlib.Core.Logic.{◌≢◌}
use mathlib.Core.Bool.{true, false, Bool, cond, ◌&&◌}
use mathlib.Core.List.{List, ◌∷◌}
use lib.ListN.{set, replicate, length}
use borrow.Author.Tests.{eq-eqb, ne_eqb, eqb-true, lt-ltb, le-ltb}
use Rattle.model.specs.Trace.{Trace, Valid, acquire, release, fork, thread_of, kind_of, object_of}
use Rattle.model.specs.Lists.{before, nearest, up_to}
use Rattle.model.specs.Good.{Good, max_thread, max_object, depth, holder, WellFormed}
use Rattle.model.specs.Sections.{is_last, is_outermost}
use Rattle.model.proofs.Tests.{true-just, false-just, true-does, false-does, by_cases, not_on, object_small}
use Rattle.table.specs.Entries.{Entries}
use Rattle.table.specs.Links.{last_of, last_fork, last_taken}
use Rattle.table.proofs.EntryLaws.{entries_new, entries-same, entries_put}
use Rattle.opening.specs.Knows.{LastEvents, Forks, Depths, NextEnds, last_on, next_end, LastTaken}
use lib.Dec.{eqb, ltb}
use Rattle.model.specs.Cone.{gives_back, matching}
use Rattle.model.proofs.Lists.{after, numbers_split, nearest_skip}
use Rattle.model.proofs.SectionsExact.{last_releases}
use Rattle.model.proofs.MatchingExact.{matching-after, held_from, own-release, still_held}

-- ---- the events after k decide

past_all : (p : ℕ → Bool) (k d m : ℕ) → k ≤ m → nearest (λ j. ltb k j && p j) (after m d) ≡ nearest p (after m d)
past_all p k zero m l = refl
past_all p k (suc d) m l = rw (lt-ltb k (suc m) (omega arith), past_all p k d (suc m) (omega arith))

module _ (t : Trace) where
  end_after : (k d x : ℕ) → k + d ≡ length t → next_end t k x ≡ nearest (last_on t x) (after k d)
  unfolding next_end
  end_after k d x e =
      let test : ℕ → Bool = λ j. ltb k j && last_on t x j in
      ap (nearest test) (numbers_split t d k e) ∙ nearest_skip test k (after k d) (λ j l. rw (le-ltb k j l)) ∙ past_all (last_on t x) k d k (omega arith)

  end_none : (n : ℕ) → n ≡ length t → (x : ℕ) → next_end t n x ≡ 0
  end_none n e x = end_after n 0 x (omega arith)

  -- event k is the next one if it is one
  end_step : (k : ℕ) → Valid t k → (x : ℕ) → next_end t (k - 1) x ≡ cond (last_on t x k) k (next_end t k x)
  end_step zero v x = absurd (let p = v.positive in omega arith)
  end_step (suc k) v x =
      let b = v.bounded in
      let d = length t - suc k in
      let z : suc k - 1 ≡ k = omega arith in
      ap (λ (j : ℕ). next_end t j x) z ∙ end_after k (suc d) x (omega arith) ∙ ap (λ (r : ℕ). cond (last_on t x (suc k)) (suc k) r) (sym (end_after (suc k) d x (omega arith)))

-- ---- the next last release of its lock after an outermost acquire is by its thread: until then the thread holds it

module _ (t : Trace) (w : WellFormed t) (k : ℕ) where
  abbrev lock : ℕ
  lock = object_of t k

  first_last : (d m : ℕ) → k ≤ m → m + d ≡ length t → holder t lock (up_to m) ≡ suc (thread_of t k)
      → nearest (gives_back t k) (after m d) ≡ nearest (last_on t lock) (after m d)
  unfolding gives_back
  first_last zero m l e held = refl
  first_last (suc d) m l e held =
      let v : Valid t (suc m) = record { positive = omega arith; bounded = omega arith } in
      let on = first_last d (suc m) (omega arith) (omega arith) in
      let past = lt-ltb k (suc m) (omega arith) in
      by_cases (is_last t (suc m))
      (λ i.
      by_cases (eqb (object_of t (suc m)) lock)
      (λ o. rw (i, o, past, eq-eqb _ _ (own-release t w k m v held (last_releases t (suc m) i) (eqb-true _ _ o))))
      (λ o. rw (i, o, past) (on (still_held t w k m v held l (rw (i, o, past))))))
      (λ i. rw (i, past) (on (still_held t w k m v held l (rw (i, past)))))

  pub matching-next : Valid t k → is_outermost t k ≡ true → matching t k ≡ next_end t k lock
  matching-next v o =
      let b = v.bounded in
      let d = length t - k in
      let e : k + d ≡ length t = omega arith in
      matching-after t k d e o ∙ first_last d k (omega arith) e (held_from t w k o) ∙ sym (end_after t k d lock e)

-- ---- at the start

pub events_new : (t : Trace) → LastEvents t 1 (replicate (max_thread + 1) 0)
events_new t = entries_new _ max_thread (λ c. refl)

pub forks_new : (t : Trace) → Forks t 1 (replicate (max_thread + 1) 0)
forks_new t = entries_new _ max_thread (λ c. refl)

pub depths_new : (t : Trace) → Depths t 1 (replicate (max_object + 1) 0)
depths_new t = entries_new _ max_object (λ x. refl)

pub ends_new : (t : Trace) (n : ℕ) → n ≡ length t → NextEnds t n (replicate (max_object + 1) 0)
ends_new t n e = entries_new _ max_object (end_none t n e)

pub taken_new : (t : Trace) → LastTaken t 1 (replicate (max_object + 1) 0)
taken_new t = entries_new _ max_object (λ x. refl)

-- ---- after event k

next-before : (k : ℕ) → 1 ≤ k → k ∷ before k ≡ before (k + 1)
next-before zero p = absurd (omega arith)
next-before (suc k) p = ap before (sym (add-one (suc k)))

module _ {t : Trace} {k : ℕ} (g : Good t) (v : Valid t k) where
  -- what is known by the events up to k is known before the next
  pub known_next : (f : ℕ → List ℕ → ℕ) {n : ℕ} {l : List ℕ} → Entries (λ x. f x (k ∷ before k)) n l → Entries (λ x. f x (before (k + 1))) n l
  known_next f {n} {l} = subst (λ (h : List ℕ). Entries (λ x. f x h) n l) (next-before k v.positive)

  pub events_step : {l : List ℕ} → LastEvents t k l → LastEvents t (k + 1) (set l (thread_of t k) k)
  events_step p =
      let c = thread_of t k in
      known_next (λ x h. last_of t h x)
      (entries_put p _ c k (g.thread_limit k v) (rw (true-just c c refl)) (λ d ne. rw (false-just d c (λ q. ne (sym q)))))

  module _ {l : List ℕ} (p : Forks t k l) where
    pub forks_put : kind_of t k ≡ fork → object_of t k ≤ max_thread → Forks t (k + 1) (set l (object_of t k) k)
    forks_put e h =
        let x = object_of t k in
        known_next (last_fork t)
        (entries_put p (λ c. last_fork t c (k ∷ before k)) x k h (rw (true-does t fork x k e refl)) (λ c ne. rw (not_on t fork c k ne)))

    pub forks-same : kind_of t k ≢ fork → Forks t (k + 1) l
    forks-same ne = known_next (last_fork t) (entries-same p (λ c. last_fork t c (k ∷ before k)) (λ c. rw (false-does t fork c k ne)))

  module _ {l : List ℕ} (p : Depths t k l) where
    pub depths_put : (d : ℕ) → d ≡ depth t (object_of t k) (k ∷ before k) → Depths t (k + 1) (set l (object_of t k) d)
    depths_put d e =
        known_next (depth t)
        (entries_put p (λ x. depth t x (k ∷ before k)) (object_of t k) d (object_small t g k v) (sym e) (λ x ne. rw (not_on t acquire x k ne, not_on t release x k ne)))

    pub depths_same : kind_of t k ≢ acquire → kind_of t k ≢ release → Depths t (k + 1) l
    depths_same a r = known_next (depth t) (entries-same p (λ x. depth t x (k ∷ before k)) (λ x. rw (false-does t acquire x k a, false-does t release x k r)))

  module _ {l : List ℕ} (p : NextEnds t k l) where
    pub ends_put : is_last t k ≡ true → NextEnds t (k - 1) (set l (object_of t k) k)
    ends_put e =
        let x = object_of t k in
        entries_put p _ x k (object_small t g k v) (end_step t k v x ∙ rw (e, eq-eqb x x refl)) (λ y ne. end_step t k v y ∙ rw (e, ne_eqb x y (λ z. ne (sym z))))

    pub ends_same : is_last t k ≡ false → NextEnds t (k - 1) l
    ends_same e = entries-same p _ (λ x. end_step t k v x ∙ rw e)

  module _ {l : List ℕ} (p : LastTaken t k l) where
    pub taken_put : is_outermost t k ≡ true → LastTaken t (k + 1) (set l (object_of t k) k)
    taken_put e =
        let x = object_of t k in
        known_next (last_taken t)
        (entries_put p (λ y. last_taken t y (k ∷ before k)) x k (object_small t g k v) (rw (e, eq-eqb x x refl)) (λ y ne. rw (e, ne_eqb x y (λ z. ne (sym z)))))

    pub taken_same : is_outermost t k ≡ false → LastTaken t (k + 1) l
    taken_same e = known_next (last_taken t) (entries-same p (λ y. last_taken t y (k ∷ before k)) (λ y. rw e))
