-- The tests of refusals 5 to 9 and 15 to 17 are true exactly in their rows' cases, and none is exactly when the events are good.
use Prim.Native.Nat.{ℕ, ◌≤◌}
use native.Mathlib.Omega.{arith}
use mathlib.Core.Path.{◌≡◌, sym, ◌∙◌}
use mathlib.Core.Logic.{◌≢◌, ◌⊎◌, inl, inr, ⊎_elim, ◌↔◌}
use mathlib.Core.Bool.{Bool, true, false, ◌&&◌, ◌||◌, false≢true}
use mathlib.Core.Option.{none}
use mathlib.Core.List.{List, [], ◌∷◌}
use lib.ListN.{length, drop}
use lib.Dec.{eqb, leb}
use borrow.Author.Tests.{eqb-true, eq-eqb, leb-true, le-leb, not-true}
use Rattle.model.specs.Trace.{Trace, Valid, read, acquire, release, fork, join, thread_of, kind_of, object_of, does}
use Rattle.model.specs.Lists.{before, numbers, any_in, just}
use Rattle.model.specs.Good.{KnownKind, is_known_kind, max_events, max_thread, object_limit, Free, Held, SelfOrSecond, self_fork, self_join, second, AlreadyBegun, begun, AlreadyJoined, joined, Good}
use Rattle.model.specs.Rows.{Row, Quiet, First, Tested}
use Rattle.model.specs.Refusals.{InLimits, event_rows, trace_rows}
use Rattle.decision.specs.Refusals.{is_forked, is_joined, is_begun, is_self, is_second, event_tests, any_true, is_good}
use Rattle.model.proofs.Tests.{by_cases, both, true_both, clash, either_true, true-either, or_right, false_test, does-true, true-does, just-true, true-just, kind_valid}
use Rattle.model.proofs.Lists.{mem_numbers, numbers_mem, mem_before, before_mem, any_mem, mem_any}
use Rattle.model.proofs.RowsExact.{none_quiet, quiet_none, quiet_each, each_quiet, not_exactly, kind_exactly, surely}
use Rattle.decision.proofs.CheckExact.{free_true, true_free}

-- an event as it should be
pub record GoodEvent (t : Trace) (k : ℕ) : Type 0 where
  pub limits : InLimits t k
  pub acquire_free : kind_of t k ≡ acquire → Free t (before k) k
  pub release_held : kind_of t k ≡ release → Held t (before k) k
  pub other_once : ¬ SelfOrSecond t k
  pub forked_first : ¬ AlreadyBegun t k
  pub joined_last : ¬ AlreadyJoined t k

event_positive : (t : Trace) (j : ℕ) → kind_of t j ≢ 0 → 1 ≤ j
event_positive t j ne = (kind_valid t j ne).positive

module _ (t : Trace) (k : ℕ) where
  pub known_true : is_known_kind (kind_of t k) ≡ true → KnownKind (kind_of t k)
  known_true e = let a = both (leb read (kind_of t k)) (leb (kind_of t k) join) e in (leb-true read (kind_of t k) a.0, leb-true (kind_of t k) join a.1)

  pub true_known : KnownKind (kind_of t k) → is_known_kind (kind_of t k) ≡ true
  true_known p = true_both (le-leb read (kind_of t k) p.0) (le-leb (kind_of t k) join p.1)

  -- ---- forks and joins

  self_true : is_self t k ≡ true → SelfOrSecond t k
  unfolding is_self
  self_true e =
      let p = both (eqb (kind_of t k) fork || eqb (kind_of t k) join) _ e in
      let o = eqb-true (object_of t k) (thread_of t k) p.1 in
      ⊎_elim (λ f. self_fork (eqb-true _ _ f) o) (λ f. self_join (eqb-true _ _ f) o) (either_true (eqb (kind_of t k) fork) _ p.0)

  second_true : is_second t k ≡ true → SelfOrSecond t k
  unfolding is_second is_forked
  second_true e =
      let p = both (eqb (kind_of t k) fork) _ e in
      let r = mem_any (λ j. does t fork (object_of t k) j) (before k) p.1 in
      let d = does-true t fork (object_of t k) r.0 r.2 in
      second (mem_before k r.0 r.1).1 d.0 (eqb-true _ _ p.0) d.1

  true_self : SelfOrSecond t k → (is_self t k ≡ true) ⊎ (is_second t k ≡ true)
  unfolding is_self is_second is_forked
  true_self (self_fork f o) = inl (rw (eq-eqb _ _ f, eq-eqb _ _ o))
  true_self (self_join f o) = inl (true_both (or_right (eqb (kind_of t k) fork) (eq-eqb _ _ f)) (eq-eqb _ _ o))
  true_self (second {j = j} l p q o) =
      inr (true_both (eq-eqb _ _ q)
      (any_mem (λ j. does t fork (object_of t k) j) (before_mem k j (event_positive t j (λ z. let n : ◌≡◌ {A = ℕ} 0 5 = sym z ∙ p in omega arith)) l) (true-does t fork (object_of t k) j p o)))

  pub self_exactly : (is_self t k || is_second t k ≡ true) ↔ SelfOrSecond t k
  self_exactly = ((λ e. ⊎_elim self_true second_true (either_true (is_self t k) (is_second t k) e)), (λ x. true-either (is_self t k) (is_second t k) (true_self x)))

  pub begun_exactly : (eqb (kind_of t k) fork && is_begun t (before k) (object_of t k) ≡ true) ↔ AlreadyBegun t k
  unfolding is_begun
  begun_exactly = (
    (λ e.
        let p = both (eqb (kind_of t k) fork) _ e in
        let r = mem_any (λ j. just (object_of t k) (thread_of t j)) (before k) p.1 in
        let l = mem_before k r.0 r.1 in
        begun l.0 l.1 (eqb-true _ _ p.0) (just-true _ _ r.2)),
    from,
  )
    where
      from : AlreadyBegun t k → eqb (kind_of t k) fork && any_in (λ j. just (object_of t k) (thread_of t j)) (before k) ≡ true
      from (begun {j = j} p l f o) = true_both (eq-eqb _ _ f) (any_mem (λ j. just (object_of t k) (thread_of t j)) (before_mem k j p l) (true-just _ _ o))

  pub joined_exactly : (is_joined t (before k) (thread_of t k) ≡ true) ↔ AlreadyJoined t k
  unfolding is_joined
  joined_exactly = (
    (λ e.
        let r = mem_any (λ j. does t join (thread_of t k) j) (before k) e in
        let d = does-true t join (thread_of t k) r.0 r.2 in
        joined (mem_before k r.0 r.1).1 d.0 d.1),
    from,
  )
    where
      from : AlreadyJoined t k → any_in (λ j. does t join (thread_of t k) j) (before k) ≡ true
      from (joined {j = j} l f o) =
          any_mem (λ j. does t join (thread_of t k) j) (before_mem k j (event_positive t j (λ z. let n : ◌≡◌ {A = ℕ} 0 6 = sym z ∙ f in omega arith)) l) (true-does t join (thread_of t k) j f o)

  -- each test exactly in its row's case
  pub event_tested : Tested (event_tests t k) (event_rows t k)
  unfolding event_tests
  event_tested =
      let lock : Tested (drop 6 (event_tests t k)) (drop 6 (event_rows t k)) = (kind_exactly (free_true t (before k) k) (true_free t (before k) k) (kind_of t k) acquire, (kind_exactly (eqb-true _ _) (eq-eqb _ _) (kind_of t k) release, tt)) in
      (not_exactly known_true true_known, (not_exactly (leb-true _ max_thread) (le-leb _ max_thread), (not_exactly (leb-true _ (object_limit (kind_of t k))) (le-leb _ (object_limit (kind_of t k))), (self_exactly, (begun_exactly, (joined_exactly, lock))))))

  -- no row is the case exactly where the event is good
  pub good_quiet : GoodEvent t k → Quiet (event_rows t k)
  good_quiet g =
      let lock : Quiet (drop 6 (event_rows t k)) = ((λ p. p.1 (g.acquire_free p.0)), ((λ p. p.1 (g.release_held p.0)), tt)) in
      ((λ n. n g.limits.kind), ((λ n. n g.limits.thread), ((λ n. n g.limits.object), (g.other_once, (g.forked_first, (g.joined_last, lock))))))

  pub quiet_good : Quiet (event_rows t k) → GoodEvent t k
  quiet_good q = record {
    limits = record {
      kind = surely known_true true_known q.0;
      thread = surely (leb-true (thread_of t k) max_thread) (le-leb (thread_of t k) max_thread) q.1.0;
      object = surely (leb-true (object_of t k) (object_limit (kind_of t k))) (le-leb (object_of t k) (object_limit (kind_of t k))) q.1.1.0;
    };
    acquire_free = λ e. surely (free_true t (before k) k) (true_free t (before k) k) (λ n. q.1.1.1.1.1.1.0 (e, n));
    release_held = λ e. surely (eqb-true _ _) (eq-eqb _ _) (λ n. q.1.1.1.1.1.1.1.0 (e, n));
    other_once = q.1.1.1.0;
    forked_first = q.1.1.1.1.0;
    joined_last = q.1.1.1.1.1.0;
  }

-- no test is true exactly where no row is the case
any_false : (m : List Bool) (l : List Row) → Tested m l → any_true m ≡ false → Quiet l
any_false [] [] t e = tt
any_false [] (r ∷ l) t e = elim t [ ]
any_false (b ∷ m) [] t e = elim t [ ]
any_false (b ∷ m) (r ∷ l) t e = by_cases b (λ p. clash (rw p) e) (λ p. ((λ c. clash (t.0.1 c) p), any_false m l t.1 (rw p at e)))

any-true : (m : List Bool) (l : List Row) → Tested m l → Quiet l → ¬ (any_true m ≡ true)
any-true [] [] t q e = false≢true e
any-true [] (r ∷ l) t q e = elim t [ ]
any-true (b ∷ m) [] t q e = elim t [ ]
any-true (b ∷ m) (r ∷ l) t q e = ⊎_elim (λ p. q.0 (t.0.0 p)) (λ p. any-true m l t.1 q.1 p) (either_true b (any_true m) e)

module _ (t : Trace) where
  -- none exactly when the events are good
  pub good_exactly : length t ≤ max_events → First (trace_rows t) none ↔ Good t
  good_exactly size = (
    (λ f.
        let q = each_quiet (event_rows t) (numbers t) (none_quiet (trace_rows t) f) in
        let g : (k : ℕ) → Valid t k → GoodEvent t k = λ k v. quiet_good t k (q k (numbers_mem t k v)) in record {
          size = size;
          kinds = λ k v. (g k v).limits.kind;
          thread_limit = λ k v. (g k v).limits.thread;
          object-limit = λ k v. (g k v).limits.object;
          well_formed = record {
            taken_free = λ k v. (g k v).acquire_free;
            given_back = λ k v. (g k v).release_held;
            other_once = λ k v. (g k v).other_once;
            forked_first = λ k v. (g k v).forked_first;
            joined_last = λ k v. (g k v).joined_last;
          };
        }),
    (λ g.
        quiet_none (trace_rows t) (quiet_each (event_rows t) (numbers t) (λ k m.
        let v = mem_numbers t k m in
        good_quiet t k (record {
          limits = record { kind = g.kinds k v; thread = g.thread_limit k v; object = g.object-limit k v };
          acquire_free = g.well_formed.taken_free k v;
          release_held = g.well_formed.given_back k v;
          other_once = g.well_formed.other_once k v;
          forked_first = g.well_formed.forked_first k v;
          joined_last = g.well_formed.joined_last k v;
        })))),
  )

  pub is_good_exactly : (is_good t ≡ true) ↔ Good t
  unfolding is_good
  is_good_exactly = (
    (λ e.
        let p = both (leb (length t) max_events) _ e in
        (good_exactly (leb-true (length t) max_events p.0)).0
        (quiet_none (trace_rows t) (quiet_each (event_rows t) (numbers t) (λ k m.
        any_false (event_tests t k) (event_rows t k) (event_tested t k) (by_cases (any_true (event_tests t k)) (λ q. clash (any_mem tried m q) (not-true _ p.1)) (λ q. q)))))),
    (λ g.
        true_both (le-leb (length t) max_events g.size)
        (rw (false_test {P = ⊥} (λ e.
        let r = mem_any tried (numbers t) e in
        any-true (event_tests t r.0) (event_rows t r.0) (event_tested t r.0) (each_quiet (event_rows t) (numbers t) (none_quiet (trace_rows t) ((good_exactly g.size).1 g)) r.0 r.1) r.2) (λ x. x)))),
  )
    where
      tried : ℕ → Bool
      tried k = any_true (event_tests t k)
