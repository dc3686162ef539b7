-- The next event of a thread, what an event waits for, what it does to the lists, and its fault: the ways through `is_next`, `is_ready`, `add`, `access_fault` and `fault_at`.
use Prim.Native.Nat.{ℕ, suc, ◌+◌, ◌≤◌, zero, ◌<◌}
use native.Mathlib.Omega.{arith}
use mathlib.Core.Path.{◌≡◌, sym, ◌∙◌, ap, refl}
use mathlib.Core.Logic.{◌≢◌, inl, inr, ⊎_elim}
use mathlib.Core.Bool.{true, false, cond, Bool, ◌&&◌, ◌||◌, not}
use mathlib.Core.List.{List, ◌∷◌, [], reverse, reverse-reverse}
use lib.ListN.{set, get_or, length}
use lib.Dec.{eqb, leb}
use borrow.Author.Tests.{eqb-true, eqb-false, eq-eqb, ne_eqb, leb-true, le-leb, not-true, not-false}
use Rattle.model.specs.Trace.{Trace, Valid, write, acquire, release, fork, join, thread_of, kind_of, object_of, does, read}
use Rattle.model.specs.Observed.{last_write}
use Rattle.model.specs.Good.{Good, max_thread, max_object, holder, Free}
use Rattle.model.specs.Awaits.{Awaits, forked, joined}
use Rattle.model.specs.Reordering.{Step, Next}
use Rattle.model.specs.Sections.{is_last}
use Rattle.model.proofs.Tests.{by_cases, clash, or_right, either_true, true-just, false-just, true-does, false-does, false_test, test_false, not_on}
use Rattle.model.proofs.Lists.{nearest_mem, mem_own, own_mem, mem_up_to, up_to_mem, mem_listed, listed_mem}
use Rattle.model.proofs.AwaitsExact.{awaits_valid, only-fork}
use Rattle.model.proofs.Histories.{Legal, of_legal, to_legal, legal_valid, beginning}
use Rattle.decision.proofs.CheckExact.{clean_step, next-true, true-next, valid_true, true_valid, seen_true, true_seen, free_true, true_free, ready_true, true_ready}
use Rattle.model.proofs.SectionsExact.{last_releases, release_by_holder, release_frees}
use Rattle.table.specs.Links.{last_of, release_of, previous, waits_for, fork_of}
use Rattle.table.specs.Entries.{Entries}
use Rattle.table.proofs.LinkFacts.{nearest_last, last_release, reads_observed, last_joined, joined_last, joined_thread, waits_less, fork_less, fork_awaited, fork-only}
use Rattle.table.proofs.EntryLaws.{entries-same, entries_put}
use Rattle.checking.specs.Passing.{KnowsMore, Knows, NextTold, PassedTold, ReadyTold, access_fault, AccessTold, FaultTold}
use Rattle.model.specs.Lists.{◌∈◌, up_to, before, keep, nearest, listed, own, just}
use Rattle.decision.specs.Check.{is_next, is_seen, is_free, is_ready, place_tests, place_fault, first_of}
use Rattle.model.specs.Rows.{first, or_zero}
use Rattle.std.specs.Prelude.{Result, Ok, Err}
use Rattle.checking.specs.Faults.{number_of, fault_number}
use Rattle.checking.proofs.FaultLaws.{numbered}
use Rattle.checking.specs.declared.Fault.{Fault}
use Rattle.checking.specs.declared.Fault.TheVariants.{NoEvent, NotNext, SeesOtherwise, LockHeld, NotReady}

-- ---- the trace's events that pass a test are told by the latest of them

module _ (p : ℕ → Bool) where
  nearest-keep : (l : List ℕ) → nearest p (keep p l) ≡ nearest p l
  nearest-keep [] = refl
  nearest-keep (k ∷ l) = by_cases (p k) (λ e. rw (e, e)) (λ e. rw e (nearest-keep l))

  keep-nearest : (m : ℕ) → keep p (up_to m) ≡ keep p (up_to (nearest p (up_to m)))
  keep-nearest zero = refl
  keep-nearest (suc m) = by_cases (p (suc m)) (λ e. rw (e, e)) (λ e. rw e (keep-nearest m))

  same-nearest : (l r : List ℕ) → keep p l ≡ keep p r → nearest p l ≡ nearest p r
  same-nearest l r e = sym (nearest-keep l) ∙ ap (nearest p) e ∙ nearest-keep r

  nearest-same : (m n : ℕ) → nearest p (up_to m) ≡ nearest p (up_to n) → keep p (up_to m) ≡ keep p (up_to n)
  nearest-same m n e = keep-nearest m ∙ ap (λ (i : ℕ). keep p (up_to i)) e ∙ sym (keep-nearest n)

-- ---- the next event of a thread

pub knows_legal : {t : Trace} {h last writes locks : List ℕ} → Knows t h last writes locks → Legal t h
knows_legal {t} {h} w = rw (reverse-reverse h) at (to_legal t (reverse h) w.correct)

module _ (t : Trace) (h : List ℕ) where
  next_last : (k : ℕ) → Next t h k → previous t k ≡ last_of t h (thread_of t k)
  unfolding previous
  next_last k e = sym (same-nearest (λ j. just (thread_of t k) (thread_of t j)) h (before k) e.turn)

  last_next : Legal t h → (k : ℕ) → Valid t k → previous t k ≡ last_of t h (thread_of t k) → Next t h k
  unfolding previous
  last_next l zero v e = absurd (let z = v.positive in omega arith)
  last_next l (suc k) v e =
      let p : ℕ → Bool = λ j. just (thread_of t (suc k)) (thread_of t j) in
      let b = beginning t h l (thread_of t (suc k)) in
      let s : nearest p h ≡ nearest p (up_to b.0) = same-nearest p h (up_to b.0) b.2 in
      record { valid = v; turn = b.2 ∙ nearest-same p b.0 k (sym s ∙ sym e) }

pub next-told : {t : Trace} {k : ℕ} → Valid t k → (last : List ℕ) (c : ℕ) → c ≡ thread_of t k → c ≤ max_thread → (j : ℕ) → j ≡ previous t k → (l : ℕ) → l ≡ get_or last c 0 → NextTold t last k (eqb j l)
next-told {t} {k} v last c ec lc j ej l el =
    record {
      is = λ h writes locks q.
          let same : l ≡ last_of t h (thread_of t k) = el ∙ q.threads.is c lc ∙ ap (last_of t h) ec in
          by_cases (is_next t h k)
          (λ e. rw e (eq-eqb _ _ (ej ∙ next_last t h k (next-true t h k e) ∙ sym same)))
          (λ e. rw e (ne_eqb _ _ (λ z. test_false (true-next t h k) e (last_next t h (knows_legal q) k v (sym ej ∙ z ∙ same)))));
    }

-- ---- what an event waits for

module _ (t : Trace) (h : List ℕ) (l : Legal t h) (j : ℕ) (v : Valid t j) where
  abbrev same : ℕ → Bool
  same i = just (thread_of t j) (thread_of t i)

  -- a history has the beginning of each thread, up to its last event there
  pub upto_last : j ≤ last_of t h (thread_of t j) → j ∈ h
  upto_last le =
      let c = thread_of t j in
      let b = beginning t h l c in
      let e : nearest same h ≡ nearest same (up_to b.0) = same-nearest same h (up_to b.0) b.2 in
      let ne : nearest same (up_to b.0) ≢ 0 = λ z. let p = v.positive in let n : ⊥ = omega arith in n in
      let top = (mem_up_to b.0 (nearest same (up_to b.0)) (nearest_mem same (up_to b.0) ne)).1 in
      (mem_own t c j h (rw b.2 (own_mem t c (up_to_mem b.0 j v.positive (omega arith)) refl))).0

  pub last_upto : j ∈ h → j ≤ last_of t h (thread_of t j)
  last_upto m =
      let c = thread_of t j in
      let b = beginning t h l c in
      let x : j ∈ own t c (up_to b.0) = rw (← b.2) (own_mem t c m refl) in
      let y = mem_up_to b.0 j (mem_own t c j (up_to b.0) x).0 in
      let z = nearest_last same b.0 j y.0 y.1 (true-just c c refl) in
      let e : nearest same h ≡ nearest same (up_to b.0) = same-nearest same h (up_to b.0) b.2 in
      omega arith

pub fork_bounded : {t : Trace} {k : ℕ} → Valid t k → (o : ℕ) → o ≡ fork_of t k → o ≤ length t
fork_bounded {t} {k} v o e = let z = fork_less t k v.positive in let b = v.bounded in omega arith

pub waits_bounded : {t : Trace} {k : ℕ} → Good t → Valid t k → (o : ℕ) → o ≡ waits_for t k → o ≤ length t
waits_bounded {t} {k} g v o e = let z = waits_less t g.well_formed k v in let b = v.bounded in omega arith

pub passed_upto : {t : Trace} {j : ℕ} → 1 ≤ j → j ≤ length t → (last : List ℕ) (c : ℕ) → c ≡ thread_of t j → c ≤ max_thread → (l : ℕ) → l ≡ get_or last c 0 → PassedTold t last j (leb j l)
passed_upto {t} {j} p b last c ec lc l el =
    record {
      is = λ h writes locks q.
          let v : Valid t j = record { positive = p; bounded = b } in
          let same : l ≡ last_of t h (thread_of t j) = el ∙ q.threads.is c lc ∙ ap (last_of t h) ec in
          by_cases (listed j h)
          (λ e. rw (ne_eqb j 0 (omega arith), e) (le-leb j l (let z = last_upto t h (knows_legal q) j v (listed_mem j h e) in omega arith)))
          (λ e.
          rw (ne_eqb j 0 (omega arith), e)
          (false_test (leb-true j l) (λ le. test_false mem_listed e (upto_last t h (knows_legal q) j v (let y = same in omega arith)))));
    }

module _ {t : Trace} (g : Good t) {k : ℕ} (v : Valid t k) {last : List ℕ} {o : ℕ} (eo : o ≡ fork_of t k) {b : Bool} (a : PassedTold t last o b) where
  -- its thread's fork has not been passed
  pub fork_ahead : not b ≡ true → ReadyTold t last k false
  fork_ahead e = record {
    is = λ h writes locks q.
        let f : eqb o 0 || listed o h ≡ false = sym (a.is h writes locks q) ∙ not-true b e in
        let ne : fork_of t k ≢ 0 = λ z. clash (rw (eo ∙ z)) f in
        sym (false_test (ready_true t h k) (λ r. clash (or_right (eqb o 0) (mem_listed (rw (← eo) at (r (fork_of t k) (fork_awaited t k ne))))) f));
  }

  module _ (e : not b ≡ false) where
    fork_in : (h writes locks : List ℕ) → Knows t h last writes locks → (j : ℕ) → kind_of t j ≡ fork → object_of t j ≡ thread_of t k → j ∈ h
    fork_in h writes locks q j f c =
        let z = fork-only t g.well_formed k v j f c in
        let p = (awaits_valid t k j (forked f c)).positive in
        let y : eqb o 0 || listed o h ≡ true = sym (a.is h writes locks q) ∙ not-false b e in
        rw (eo ∙ z) at (listed_mem o h (⊎_elim (λ n. let u = eqb-true o 0 n in absurd (omega arith)) (λ n. n) (either_true (eqb o 0) (listed o h) y)))

    module _ {d : ℕ} (ed : d ≡ kind_of t k) where
      pub ready_fork : (d ≡ join → ⊥) → ReadyTold t last k true
      ready_fork ne = record {
        is = λ h writes locks q. sym (true_ready t h k ((only-fork t h k (λ z. ne (ed ∙ z))).1 (fork_in h writes locks q)));
      }

      pub ready_join : d ≡ join → {u : ℕ} → u ≡ waits_for t k → {r : Bool} → PassedTold t last u r → ReadyTold t last k r
      ready_join ej {u} eu {r} x = record {
        is = λ h writes locks q.
            let f : kind_of t k ≡ join = sym ed ∙ ej in
            let s = x.is h writes locks q in
            by_cases r
            (λ y. rw y (sym (true_ready t h k (all h writes locks q f (sym s ∙ y)))))
            (λ y.
            let n : eqb u 0 || listed u h ≡ false = sym s ∙ y in
            let nz : waits_for t k ≢ 0 = λ z. clash (rw (eu ∙ z)) n in
            rw y (sym (false_test (ready_true t h k) (λ g. clash (or_right (eqb u 0) (mem_listed (rw (← eu) at (g (waits_for t k) (last_joined t k f nz))))) n))));
      }
        where
          all : (h writes locks : List ℕ) → Knows t h last writes locks → kind_of t k ≡ join → eqb u 0 || listed u h ≡ true → (j : ℕ) → Awaits t k j → j ∈ h
          all h writes locks q f y j (forked g c) = fork_in h writes locks q j g c
          all h writes locks q f y j (joined g vj c) =
              let low = joined_last t k j f vj c in
              let p = vj.positive in
              let nz : waits_for t k ≢ 0 = λ z. let n : ⊥ = omega arith in n in
              let i : u ∈ h = listed_mem u h (⊎_elim (λ n. let m = eqb-true u 0 n in absurd (nz (sym eu ∙ m))) (λ n. n) (either_true (eqb u 0) (listed u h) y)) in
              let vu = legal_valid t h (knows_legal q) u i in
              let top = last_upto t h (knows_legal q) u vu i in
              let th : thread_of t u ≡ thread_of t j = rw (← eu) at (joined_thread t k f nz) ∙ sym c in
              upto_last t h (knows_legal q) j vj (let z : u ≤ last_of t h (thread_of t j) = rw th at top in omega arith)

-- ---- what an event does to the lists

module _ (t : Trace) (k : ℕ) (last writes locks : List ℕ) (c : ℕ) (ec : c ≡ thread_of t k) (lc : c ≤ max_thread) (x : ℕ) (ex : x ≡ object_of t k) (lx : x ≤ max_object) (d : ℕ) (ed : d ≡ kind_of t k) where
  abbrev Cells : List ℕ → List ℕ → Type 0
  Cells h l = Entries (λ y. last_write t y h) max_object l

  abbrev Holders : List ℕ → List ℕ → Type 0
  Holders h l = Entries (λ y. holder t y h) max_object l

  other_object : (g y : ℕ) → y ≢ x → does t g y k ≡ false
  other_object g y ne = not_on t g y k (λ e. ne (e ∙ sym ex))

  other_kind : (g y : ℕ) → d ≢ g → does t g y k ≡ false
  other_kind g y ne = false-does t g y k (λ e. ne (ed ∙ e))

  this_object : (g : ℕ) → d ≡ g → does t g x k ≡ true
  this_object g e = true-does t g x k (sym ed ∙ e) (sym ex)

  -- event k in the table of the threads
  threads_more : (h : List ℕ) → Entries (last_of t h) max_thread last → Entries (last_of t (k ∷ h)) max_thread (set last c k)
  threads_more h p =
      entries_put p (last_of t (k ∷ h)) c k lc (rw (true-just c (thread_of t k) (sym ec)))
      (λ y ne. rw (false-just y (thread_of t k) (λ e. ne (sym e ∙ sym ec))))

  passes : (writes' locks' : List ℕ) → ((h : List ℕ) → Cells h writes → Cells (k ∷ h) writes')
      → ((h : List ℕ) → Legal t h → Step t h k → Holders h locks → Holders (k ∷ h) locks')
      → KnowsMore t k last writes locks (set last c k) writes' locks'
  passes writes' locks' f g =
      record {
        knows = λ h q e.
            let s = clean_step t h k e in
            record {
              correct = of_legal t (k ∷ h) (s, knows_legal q);
              threads = threads_more h q.threads;
              cells = f h q.cells;
              holders = g h (knows_legal q) s q.holders;
            };
      }

  -- what the event leaves as it was
  cells_same : d ≢ write → (h : List ℕ) → Cells h writes → Cells (k ∷ h) writes
  cells_same ne h p = entries-same p (λ y. last_write t y (k ∷ h)) (λ y. rw (other_kind write y ne))

  holders_same : d ≢ acquire → d ≢ release → (h : List ℕ) → Holders h locks → Holders (k ∷ h) locks
  holders_same na nr h p = entries-same p (λ y. holder t y (k ∷ h)) (λ y. rw (other_kind acquire y na, other_kind release y nr))

  -- a new holder
  holders_put : (v : ℕ) (h : List ℕ) → holder t x (k ∷ h) ≡ v → Holders h locks → Holders (k ∷ h) (set locks x v)
  holders_put v h e p =
      entries_put p (λ y. holder t y (k ∷ h)) x v lx e (λ y ne. rw (other_object acquire y ne, other_object release y ne))

  pub pass_write : d ≡ write → KnowsMore t k last writes locks (set last c k) (set writes x k) locks
  pass_write e =
      passes (set writes x k) locks
      (λ h p. entries_put p (λ y. last_write t y (k ∷ h)) x k lx (rw (this_object write e)) (λ y ne. rw (other_object write y ne)))
      (λ h g s p. holders_same (λ z. omega arith) (λ z. omega arith) h p)

  module _ (nw : d ≡ write → ⊥) where
    pub pass_acquire : d ≡ acquire → KnowsMore t k last writes locks (set last c k) writes (set locks x (c + 1))
    pass_acquire e = passes writes (set locks x (c + 1)) (cells_same nw) (λ h g s p. holders_put (c + 1) h (rw (this_object acquire e) (omega arith)) p)

    module _ (na : d ≡ acquire → ⊥) where
      module _ (v : Valid t k) (g : Good t) (e : ℕ) (ee : e ≡ release_of t k) where
        last_is : is_last t k ≡ eqb e k
        last_is = rw ee (last_release t k v.positive)

        -- what a release leaves its lock with
        after : (h : List ℕ) → Legal t h → Step t h k → kind_of t k ≡ release → holder t x (k ∷ h) ≡ cond (is_last t k) 0 (suc (thread_of t k))
        after h l s r = ap (λ (y : ℕ). holder t y (k ∷ h)) ex ∙ release_frees t g.well_formed h l k s.enabled.next r

        pub pass_last : e ≡ k → KnowsMore t k last writes locks (set last c k) writes (set locks x 0)
        pass_last z =
            let l : is_last t k ≡ true = last_is ∙ eq-eqb e k z in
            passes writes (set locks x 0) (cells_same nw) (λ h g s p. holders_put 0 h (after h g s (last_releases t k l) ∙ rw l) p)

        -- an inner release leaves the lock to its thread
        inner : (e ≡ k → ⊥) → kind_of t k ≡ release → (h : List ℕ) → Legal t h → Step t h k → Holders h locks → Holders (k ∷ h) locks
        inner z r h l s p =
            entries-same p (λ y. holder t y (k ∷ h)) (λ y.
            by_cases (eqb y x)
            (λ q.
            let here = after h l s r ∙ rw (last_is ∙ ne_eqb e k z) in
            let there = ap (λ (v : ℕ). holder t v h) ex ∙ release_by_holder t g.well_formed h l k s.enabled.next r in
            ap (λ (v : ℕ). holder t v (k ∷ h)) (eqb-true y x q) ∙ here ∙ sym there ∙ ap (λ (v : ℕ). holder t v h) (sym (eqb-true y x q)))
            (λ q. let ne : y ≢ x = eqb-false _ _ q in rw (other_object acquire y ne, other_object release y ne)))

        pub pass_other : (e ≡ k → ⊥) → KnowsMore t k last writes locks (set last c k) writes locks
        pass_other z =
            passes writes locks (cells_same nw) (λ h g s p.
            by_cases (eqb d release)
            (λ e. inner z (sym ed ∙ eqb-true _ _ e) h g s p)
            (λ e. holders_same na (eqb-false _ _ e) h p))

-- ---- the fault of an event

module _ (t : Trace) (k : ℕ) (writes locks : List ℕ) (x : ℕ) (ex : x ≡ object_of t k) (lx : x ≤ max_object) (d : ℕ) (ed : d ≡ kind_of t k) where
  -- what it sees, and whether its lock is free
  remain : (r : Result (Unit {0}) Fault) → ((h last : List ℕ) → Knows t h last writes locks → fault_number r ≡ or_zero (first ((eqb (kind_of t k) read && not (is_seen t h k)) ∷ (eqb (kind_of t k) acquire && not (is_free t h k)) ∷ []) (23 ∷ 24 ∷ []))) → AccessTold t writes locks k r
  unfolding access_fault place_tests
  remain r f = record { is = λ h last q. f h last q }

  module _ (e : d ≡ read) (w : ℕ) (ew : w ≡ get_or writes x 0) (o : ℕ) (eo : o ≡ waits_for t k) where
    reads : kind_of t k ≡ read
    reads = sym ed ∙ e

    sees : {h last : List ℕ} → Knows t h last writes locks → w ≡ last_write t (object_of t k) h
    sees {h} q = ew ∙ q.cells.is x lx ∙ ap (λ (y : ℕ). last_write t y h) ex

    pub sees-same : w ≡ o → AccessTold t writes locks k (Ok tt)
    sees-same f = remain (Ok tt) (λ h last q. rw (reads, true_seen t h k (sym (sees q) ∙ f ∙ eo ∙ reads_observed t k reads)))

    pub sees-other : (w ≡ o → ⊥) → AccessTold t writes locks k (Err SeesOtherwise)
    sees-other f = remain (Err SeesOtherwise) (λ h last q. rw (reads, false_test (seen_true t h k) (λ z. f (sees q ∙ z ∙ sym (eo ∙ reads_observed t k reads)))))

  module _ (unread : d ≡ read → ⊥) where
    module _ (e : d ≡ acquire) where
      takes : kind_of t k ≡ acquire
      takes = sym ed ∙ e

      held_by : {h last : List ℕ} → Knows t h last writes locks → get_or locks x 0 ≡ holder t (object_of t k) h
      held_by {h} q = q.holders.is x lx ∙ ap (λ (y : ℕ). holder t y h) ex

      may_take : ((h last : List ℕ) → Knows t h last writes locks → Free t h k) → AccessTold t writes locks k (Ok tt)
      may_take f = remain (Ok tt) (λ h last q. rw (takes, true_free t h k (f h last q)))

      pub lock_free : get_or locks x 0 ≡ 0 → AccessTold t writes locks k (Ok tt)
      lock_free f = may_take (λ h last q. inl (sym (held_by q) ∙ f))

      module _ (taken : get_or locks x 0 ≡ 0 → ⊥) (c : ℕ) (ec : c ≡ thread_of t k) where
        pub lock-own : get_or locks x 0 ≡ c + 1 → AccessTold t writes locks k (Ok tt)
        lock-own f = may_take (λ h last q. inr (let y = held_by q in omega arith))

        pub lock_taken : (get_or locks x 0 ≡ c + 1 → ⊥) → AccessTold t writes locks k (Err LockHeld)
        lock_taken f =
            remain (Err LockHeld) (λ h last q.
            rw (takes, false_test (free_true t h k) (λ z. ⊎_elim (λ u. taken (held_by q ∙ u)) (λ u. f (let y = held_by q in omega arith)) z)))

    pub no_access : (d ≡ acquire → ⊥) → AccessTold t writes locks k (Ok tt)
    no_access f = remain (Ok tt) (λ h last q. rw (ne_eqb (kind_of t k) read (λ z. unread (ed ∙ z)), ne_eqb (kind_of t k) acquire (λ z. f (ed ∙ z))))

-- ---- any number

pub first_nonzero : (f g : ℕ) → f ≢ 0 → f ≡ first_of f g
first_nonzero zero g ne = absurd (ne refl)
first_nonzero (suc f) g ne = refl

pub number_valid : (t : Trace) (k : ℕ) → 1 ≤ k → (n : ℕ) → n ≡ length t → k ≤ n → Valid t k
number_valid t k p n e f = record { positive = p; bounded = omega arith }

module _ (t : Trace) (k : ℕ) (last writes locks : List ℕ) where
  no_number : ¬ Valid t k → FaultTold t last writes locks k (Err NoEvent)
  unfolding place_fault place_tests
  no_number n = record { is = λ h q. rw (false_test (valid_true t k) n) }

  pub number_low : k < 1 → FaultTold t last writes locks k (Err NoEvent)
  number_low f = no_number (λ v. let p = v.positive in omega arith)

  pub number_high : (n : ℕ) → n ≡ length t → n < k → FaultTold t last writes locks k (Err NoEvent)
  number_high n e f = no_number (λ v. let p = v.bounded in omega arith)

module _ {t : Trace} {last : List ℕ} {k : ℕ} {b : Bool} (a : NextTold t last k b) (writes locks : List ℕ) where
  pub not-next : Valid t k → not b ≡ true → FaultTold t last writes locks k (Err NotNext)
  unfolding place_fault place_tests
  not-next v e = record { is = λ h q. rw (true_valid t k v, sym (a.is h writes locks q) ∙ not-true b e) }

  module _ (v : Valid t k) (e : not b ≡ false) where
    -- the fault of an event that is the next of its thread: 23 or 24, and then 27
    of_next_lem : (h : List ℕ) → Knows t h last writes locks → place_fault t h k ≡ first_of (access_fault t h k) (or_zero (first (not (is_ready t h k) ∷ []) (27 ∷ [])))
    unfolding place_fault place_tests access_fault
    of_next_lem h q =
        rw (true_valid t k v, sym (a.is h writes locks q) ∙ not-false b e)
        (by_cases (eqb (kind_of t k) read && not (is_seen t h k)) (λ y. rw y refl) (λ y.
        by_cases (eqb (kind_of t k) acquire && not (is_free t h k)) (λ z. rw (y, z) refl) (λ z. rw (y, z) refl)))

    pub access_found : (f : Fault) → AccessTold t writes locks k (Err f) → FaultTold t last writes locks k (Err f)
    access_found f x = record { is = λ h q. let s = x.is h last q in first_nonzero (number_of f) _ (numbered f) ∙ ap (λ (n : ℕ). first_of n (or_zero (first (not (is_ready t h k) ∷ []) (27 ∷ [])))) s ∙ sym (of_next_lem h q) }

    module _ {u : Unit {0}} (x : AccessTold t writes locks k (Ok u)) {c : Bool} (y : ReadyTold t last k c) where
      pub not_ready : not c ≡ true → FaultTold t last writes locks k (Err NotReady)
      not_ready n = record { is = λ h q. sym (of_next_lem h q ∙ rw (sym (x.is h last q), sym (y.is h writes locks q) ∙ not-true c n)) }

      pub no_fault : not c ≡ false → FaultTold t last writes locks k (Ok tt)
      no_fault n = record { is = λ h q. sym (of_next_lem h q ∙ rw (sym (x.is h last q), sym (y.is h writes locks q) ∙ not-false c n)) }
