-- What the ways through `thread_effect` and `lock_effect` go by.
use Prim.Native.Nat.{ℕ, ◌+◌, ◌<◌}
use native.Mathlib.Omega.{arith}
use mathlib.Core.Path.{◌≡◌, sym, ◌∙◌}
use mathlib.Core.Bool.{Bool, false, ◌&&◌, ◌||◌}
use mathlib.Core.List.{List, [], ◌∷◌}
use lib.ListN.{get_or, drop}
use lib.Dec.{eqb}
use mir.Val.{Fits}
use mir.Syntax.{w16}
use borrow.Author.Tests.{le-leb}
use Rattle.std.proofs.lemmas.Bool.{false_from_ne_true}
use Rattle.model.specs.Trace.{Trace, fork, thread_of, kind_of, object_of}
use Rattle.model.specs.Lists.{before}
use Rattle.model.specs.Good.{max_thread, max_object, object_limit}
use Rattle.model.specs.Rows.{first}
use Rattle.model.specs.Refusals.{InLimits}
use Rattle.decision.specs.Refusals.{is_begun, is_joined, is_self, is_second, event_tests}
use Rattle.decision.proofs.RefusalsExact.{true_known, self_exactly, begun_exactly, joined_exactly}
use Rattle.model.proofs.Locks.{depth-before}
use Rattle.model.proofs.Tests.{test_false}
use Rattle.limits.specs.declared.Refusal.TheVariants.{LockHeld, NotHolder}
use Rattle.judging.specs.Judged.{event_refusal}
use Rattle.judging.specs.Walk.{Ready, InPlace}

-- a lock is held no deeper than events stand before, so that one level more fits
pub deeper_fits : {t : Trace} {k : ℕ} {holders depths : List ℕ} → Ready t k holders depths → (x : ℕ) → x < max_object + 1
    → Fits w16 (get_or depths x 0 + 1)
deeper_fits {t} {k} p x b =
    let is = p.locks.depth_is x (omega arith) in
    let l = depth-before t x k in
    let v = p.valid.bounded in
    let f = p.few in
    record { fits = omega arith }

module _ (t : Trace) (k : ℕ) where
  -- refusals 15 to 17 have no case where their tests fail
  pub in_place : {a b c : Bool} → a ≡ (is_self t k || is_second t k) → a ≡ false
      → b ≡ (eqb (kind_of t k) fork && is_begun t (before k) (object_of t k)) → b ≡ false → c ≡ is_joined t (before k) (thread_of t k) → c ≡ false → InPlace t k
  in_place e x f y g z = record {
    other_once = test_false (self_exactly t k).1 (sym e ∙ x);
    forked_first = test_false (begun_exactly t k).1 (sym f ∙ y);
    joined_last = test_false (joined_exactly t k).1 (sym g ∙ z);
  }

  -- within its limits and in its place, an event is refused for its lock alone
  pub for_lock_alone : InLimits t k → InPlace t k → event_refusal t k ≡ first (drop 6 (event_tests t k)) (LockHeld k ∷ NotHolder k ∷ [])
  unfolding event_refusal event_tests
  for_lock_alone l p =
      rw (
        true_known t k l.kind,
        le-leb (thread_of t k) max_thread l.thread,
        le-leb (object_of t k) (object_limit (kind_of t k)) l.object,
        false_from_ne_true _ (λ e. p.other_once ((self_exactly t k).0 e)),
        false_from_ne_true _ (λ e. p.forked_first ((begun_exactly t k).0 e)),
        false_from_ne_true _ (λ e. p.joined_last ((joined_exactly t k).0 e)),
      )
