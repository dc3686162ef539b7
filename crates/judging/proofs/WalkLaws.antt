-- What the walk over the events knows, and its ways.
use Prim.Native.Nat.{ℕ, zero, suc, ◌+◌, ◌-◌, ◌*◌, ◌≤◌, ◌<◌}
use native.Mathlib.Omega.{arith}
use native.Mathlib.Numerals.{add-one}
use mathlib.Core.Path.{◌≡◌, refl, sym, ◌∙◌}
use mathlib.Core.Logic.{◌≢◌}
use mathlib.Core.Bool.{◌||◌}
use mathlib.Core.Option.{Option, none, some}
use mathlib.Core.List.{List, [], ◌∷◌, reverse_aux}
use lib.ListN.{length, get_or, set, length-set, get_or-replicate, length-replicate}
use lib.Seq.{get_or-set_same, get_or-set_other}
use lib.Dec.{eqb}
use mir.Val.{Fits}
use mir.Syntax.{w64}
use borrow.Author.Tests.{eqb-true, eqb-false}
use Rattle.model.specs.Trace.{Trace, Valid, acquire, release, kind_of, object_of}
use Rattle.model.specs.Lists.{up_to, before, numbers}
use Rattle.model.specs.Good.{max_events, max_object, depth, holder}
use Rattle.model.specs.Refusals.{InLimits}
use Rattle.bits.proofs.MaskLaws.{none_held}
use Rattle.decision.specs.Refusals.{is_begun, is_forked, is_joined}
use Rattle.model.proofs.Tests.{by_cases, false-does, not_on, limit_small}
use Rattle.model.proofs.Lists.{numbers_split}
use Rattle.limits.specs.declared.Refusal.{Refusal}
use Rattle.judging.specs.Judged.{event_refusal, refusal_in}
use Rattle.judging.specs.Walk.{LockTable, ThreadSets, locking, refused_or, effect_of}
use Rattle.limits.specs.Limits.{no_locks}
use Rattle.limits.specs.declared.Locks.{Locks}
use Rattle.judging.specs.declared.Threads.{Threads}
use Rattle.judging.specs.declared.Hold.{Hold}
use Rattle.std.specs.Prelude.{Ok, Err, Option as RustOption, Some, None}
use Rattle.judging.proofs.JudgedExact.{clean_good}

-- the events before k are good, and the tables and sets are theirs
pub record Judging (t : Trace) (k : ℕ) (locks : Locks) (threads : Threads) : Type 0 where
  pub few : length t ≤ max_events
  pub positive : 1 ≤ k
  pub high : k ≤ length t + 1
  pub clean : (j : ℕ) → 1 ≤ j → j < k → event_refusal t j ≡ none
  pub tables : LockTable t (before k) locks.holder locks.depth
  pub sets : ThreadSets t (before k) threads
  pub holder_wide : length locks.holder ≡ max_object + 1
  pub depth_wide : length locks.depth ≡ max_object + 1

-- ---- what an event does

module _ (t : Trace) (k : ℕ) where
  -- an event is refused with its refusal
  stopped : (r : Refusal) → Err r ≡ effect_of t k → event_refusal t k ≡ some r
  unfolding effect_of
  stopped r e = go (event_refusal t k) refl e
    where
      go : (o : Option Refusal) → event_refusal t k ≡ o → Err r ≡ refused_or o (locking t k) → event_refusal t k ≡ some r
      go none q f = absurd cc
      go (some x) q f = q ∙ cc

  -- an event that is not refused has its effect
  unrefused : (u : RustOption Hold) → Ok u ≡ effect_of t k → (event_refusal t k ≡ none) × (u ≡ locking t k)
  unfolding effect_of
  unrefused u e = go (event_refusal t k) refl e
    where
      go : (o : Option Refusal) → event_refusal t k ≡ o → Ok u ≡ refused_or o (locking t k) → (event_refusal t k ≡ none) × (u ≡ locking t k)
      go none q f = (q, cc)
      go (some r) q f = absurd cc

  -- no lock changes
  after_pass : None ≡ locking t k → (h : List ℕ) (x : ℕ) → (holder t x (k ∷ h) ≡ holder t x h) × (depth t x (k ∷ h) ≡ depth t x h)
  after_pass e h x =
      by_cases (eqb (kind_of t k) acquire)
      (λ a. let f = rw a at e in let z : ◌≡◌ {A = ℕ} 0 1 = cc in absurd (omega arith))
      (λ a.
      by_cases (eqb (kind_of t k) release)
      (λ b. let f = rw (a, b) at e in let z : ◌≡◌ {A = ℕ} 0 1 = cc in absurd (omega arith))
      (λ b. rw (false-does t acquire x k (eqb-false _ _ a), false-does t release x k (eqb-false _ _ b)) (refl, refl)))

  -- the event's lock has the new holder and depth
  after_hold : (v : Hold) → Some v ≡ locking t k → (holder t (object_of t k) (k ∷ before k) ≡ v.holder) × (depth t (object_of t k) (k ∷ before k) ≡ v.depth)
  after_hold v e =
      by_cases (eqb (kind_of t k) acquire || eqb (kind_of t k) release)
      (λ a. let f = rw a at e in (cc, cc))
      (λ a. let f = rw a at e in let z : ◌≡◌ {A = ℕ} 0 1 = cc in absurd (omega arith))

  -- and no other lock changes
  after-other : (h : List ℕ) (x : ℕ) → x ≢ object_of t k → (holder t x (k ∷ h) ≡ holder t x h) × (depth t x (k ∷ h) ≡ depth t x h)
  after-other h x ne = rw (not_on t acquire x k ne, not_on t release x k ne) (refl, refl)

-- a table that was right has the new entry of lock o
stored : (old new : ℕ → ℕ) (l : List ℕ) (o v : ℕ) → o < length l → ((x : ℕ) → x ≤ max_object → get_or l x 0 ≡ old x) → new o ≡ v
    → ((x : ℕ) → x ≢ o → new x ≡ old x) → (x : ℕ) → x ≤ max_object → get_or (set l o v) x 0 ≡ new x
stored old new l o v low is here other x b =
    by_cases (eqb x o)
    (λ q. rw (eqb-true x o q, get_or-set_same l o v 0 low) (sym here))
    (λ q. let ne = eqb-false x o q in rw (get_or-set_other l o x v 0 ne) (is x b ∙ sym (other x ne)))

next-before : (k : ℕ) → 1 ≤ k → before (k + 1) ≡ k ∷ before k
next-before zero p = absurd (omega arith)
next-before (suc k) p = rw (add-one (suc k))

-- ---- the first event that is refused

module _ (t : Trace) where
  clean_skip : (k : ℕ) (l : List ℕ) → ((j : ℕ) → 1 ≤ j → j ≤ k → event_refusal t j ≡ none) → refusal_in t (reverse_aux (up_to k) l) ≡ refusal_in t l
  unfolding refusal_in
  clean_skip zero l f = refl
  clean_skip (suc k) l f = clean_skip k (suc k ∷ l) (λ j a b. f j a (omega arith)) ∙ rw (f (suc k) (omega arith) (omega arith))

  refused_first : (k : ℕ) → Valid t k → ((j : ℕ) → 1 ≤ j → j < k → event_refusal t j ≡ none) → (r : Refusal) → event_refusal t k ≡ some r → refusal_in t (numbers t) ≡ some r
  unfolding refusal_in
  refused_first zero v f r e = absurd (let a = v.positive in omega arith)
  refused_first (suc k) v f r e =
      let b = v.bounded in
      rw (numbers_split t (suc (length t - suc k)) k (omega arith)) (clean_skip k _ (λ j a c. f j a (omega arith)) ∙ rw e)

-- ---- the ways

pub judging_start : (t : Trace) (locks : Locks) → length t ≤ max_events → locks.holder ≡ no_locks → locks.depth ≡ no_locks
    → Judging t 1 locks (record { begun = 0; forked = 0; joined = 0 })
unfolding no_locks is_begun is_forked is_joined
judging_start t locks few e f =
    record {
      few = few;
      positive = omega arith;
      high = omega arith;
      clean = λ j p q. absurd (omega arith);
      tables = record {
        holder_is = λ x h. rw e (get_or-replicate (max_object + 1) x 0 0 (omega arith));
        depth_is = λ x h. rw f (get_or-replicate (max_object + 1) x 0 0 (omega arith));
      };
      sets = record { begun_is = λ c. none_held c; forked_is = λ c. none_held c; joined_is = λ c. none_held c };
      holder_wide = rw e (length-replicate {A = ℕ} (max_object + 1) 0);
      depth_wide = rw f (length-replicate {A = ℕ} (max_object + 1) 0);
    }

module _ {t : Trace} {k : ℕ} {locks : Locks} {threads : Threads} (p : Judging t k locks threads) (h : k ≤ length t) where
  pub judging_valid : Valid t k
  judging_valid = record { positive = p.positive; bounded = h }

  more_clean : event_refusal t k ≡ none → (j : ℕ) → 1 ≤ j → j < k + 1 → event_refusal t j ≡ none
  more_clean e j a b = by_cases (eqb j k) (λ q. rw (eqb-true j k q) e) (λ q. let ne = eqb-false j k q in p.clean j a (omega arith))

  -- event k is good, and the new tables and sets are those after it
  next : event_refusal t k ≡ none → (l : Locks) → length l.holder ≡ max_object + 1 → length l.depth ≡ max_object + 1
      → LockTable t (k ∷ before k) l.holder l.depth → (s : Threads) → ThreadSets t (k ∷ before k) s → Judging t (k + 1) l s
  next e l v w f s g =
      record {
        few = p.few;
        positive = omega arith;
        high = omega arith;
        clean = more_clean e;
        tables = rw (next-before k p.positive) f;
        sets = rw (next-before k p.positive) g;
        holder_wide = v;
        depth_wide = w;
      }

  module _ (u : RustOption Hold) (eu : Ok u ≡ effect_of t k) where
    -- an event that is not refused is within its limits
    pub effect_limits : InLimits t k
    effect_limits = (clean_good t k (unrefused t k u eu).0).limits

    pub judging_pass : u ≡ None → (l : Locks) → l ≡ locks → (s : Threads) → ThreadSets t (k ∷ before k) s → Judging t (k + 1) l s
    judging_pass f l el s g =
        let w = unrefused t k u eu in
        let c = after_pass t k (sym f ∙ w.1) (before k) in
        rw el
        (next w.0 locks p.holder_wide p.depth_wide (record {
          holder_is = λ x b. p.tables.holder_is x b ∙ sym (c x).0;
          depth_is = λ x b. p.tables.depth_is x b ∙ sym (c x).1;
        }) s g)

    module _ (o : ℕ) (eo : o ≡ object_of t k) where
      pub judging_object : o < max_object + 1
      judging_object = let b = effect_limits.object in let m = limit_small (kind_of t k) in omega arith

      pub judging_offset : Fits w64 (o * 2)
      judging_offset = let b = judging_object in record { fits = omega arith }

      pub judging_hold : (v : Hold) → u ≡ Some v → (l : Locks) → l ≡ record { holder = set locks.holder o v.holder; depth = set locks.depth o v.depth } → (s : Threads) → ThreadSets t (k ∷ before k) s → Judging t (k + 1) l s
      judging_hold v f l el s g =
          let w = unrefused t k u eu in
          let b = judging_object in
          let y = p.holder_wide in
          let z = p.depth_wide in
          let c = after_hold t k v (sym f ∙ w.1) in
          let x = object_of t k in
          rw (el, eo)
          (next w.0 (record { holder = set locks.holder x v.holder; depth = set locks.depth x v.depth })
          (length-set locks.holder x v.holder ∙ y)
          (length-set locks.depth x v.depth ∙ z)
          (record {
            holder_is =
                stored (λ j. holder t j (before k)) (λ j. holder t j (k ∷ before k)) locks.holder x v.holder (omega arith)
                p.tables.holder_is c.0 (λ j ne. (after-other t k (before k) j ne).0);
            depth_is =
                stored (λ j. depth t j (before k)) (λ j. depth t j (k ∷ before k)) locks.depth x v.depth (omega arith)
                p.tables.depth_is c.1 (λ j ne. (after-other t k (before k) j ne).1);
          }) s g)

  pub judging_stop : (r : Refusal) → Err r ≡ effect_of t k → refusal_in t (numbers t) ≡ some r
  judging_stop r f = refused_first t k judging_valid p.clean r (stopped t k r f)

pub judging_end : {t : Trace} {k : ℕ} {locks : Locks} {threads : Threads} → Judging t k locks threads → length t < k → refusal_in t (numbers t) ≡ none
unfolding refusal_in
judging_end {t} p h = clean_skip t (length t) [] (λ j a b. p.clean j a (omega arith))
