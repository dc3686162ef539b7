-- The mask of the threads seen has as many ones as there are different threads.
use Prim.Native.Nat.{ℕ, zero, suc, ◌+◌, ◌-◌, ◌≤◌, ◌<◌}
use native.Mathlib.Omega.{arith}
use mathlib.Core.Path.{◌≡◌, refl, sym, ◌∙◌, ap}
use mathlib.Core.Bool.{true, false, not}
use mathlib.Core.List.{List, [], ◌∷◌}
use lib.ListN.{length, drop, drop_of_length-le}
use lib.Seq.{drop-cons}
use lib.Count.{ones}
use lib.Dec.{eqb}
use borrow.Author.Tests.{eqb-true, eqb-false}
use Rattle.model.specs.Trace.{Trace, no_event, at, thread_of, Valid}
use Rattle.model.specs.Lists.{cons_if, listed, threads}
use Rattle.model.specs.Good.{Good}
use Rattle.model.proofs.Tests.{by_cases}
use Rattle.bits.specs.Mask.{holds, including}
use Rattle.bits.proofs.MaskLaws.{none_held, held_same, held_other, ones_old, ones_new}

-- a mask has the numbers of a list, in which none stands twice
record Same (mask : ℕ) (l : List ℕ) : Type 0 where
  has : (x : ℕ) → holds mask x ≡ listed x l
  number : ones mask ≡ length l

same_none : Same 0 []
unfolding listed ones
same_none = record { has = none_held; number = refl }

-- one number more, unless it is there
same_more : (mask c : ℕ) (l : List ℕ) → Same mask l → Same (including mask c) (cons_if (not (listed c l)) c l)
unfolding listed
same_more mask c l p =
    by_cases (listed c l)
    (λ q.
    let e : holds mask c ≡ true = p.has c ∙ q in
    rw q
    (record {
      has = λ x.
          by_cases (eqb x c)
          (λ y. rw (eqb-true x c y) (held_same mask c ∙ sym q))
          (λ y. held_other mask c x (eqb-false x c y) ∙ p.has x);
      number = ones_old mask c e ∙ p.number;
    }))
    (λ q.
    let e : holds mask c ≡ false = p.has c ∙ q in
    rw q
    (record {
      has = λ x.
          by_cases (eqb x c)
          (λ y. let z = eqb-true x c y in rw (y, z) (held_same mask c))
          (λ y. rw y (held_other mask c x (eqb-false x c y) ∙ p.has x));
      number = ones_new mask c e ∙ ap suc p.number;
    }))

-- the mask has the threads of the events from k on
pub record Seen (t : Trace) (k mask : ℕ) : Type 0 where
  pub good : Good t
  pub low : k ≤ length t + 1
  same : Same mask (threads (drop (k - 1) t))

from_event : (t : Trace) (k : ℕ) → 0 < k → k ≤ length t → drop (k - 1) t ≡ at t k ∷ drop k t
from_event t zero h b = absurd (omega arith)
from_event t (suc k) h b = let e : suc k - 1 ≡ k = omega arith in rw e (drop-cons t k no_event b)

pub seen_start : (t : Trace) (n : ℕ) → n ≡ length t → Good t → Seen t (n + 1) 0
unfolding threads
seen_start t n e g = record { good = g; low = omega arith; same = rw (drop_of_length-le t {i = n + 1 - 1} (omega arith)) same_none }

module _ {t : Trace} {k mask : ℕ} (p : Seen t k mask) where
  module _ (h : 1 < k) where
    pub seen_valid : Valid t (k - 1)
    seen_valid = let l = p.low in record { positive = omega arith; bounded = omega arith }

    pub seen_small : (c : ℕ) → c ≡ thread_of t (k - 1) → c < 16
    seen_small c e = let l = p.good.thread_limit (k - 1) seen_valid in omega arith

    pub seen_more : (c : ℕ) → c ≡ thread_of t (k - 1) → (m : ℕ) → m ≡ including mask c → Seen t (k - 1) m
    unfolding threads
    seen_more c e m d =
        let l = p.low in
        let v = seen_valid in
        record { good = p.good; low = omega arith; same = rw (from_event t (k - 1) v.positive v.bounded, d, e) (same_more mask (thread_of t (k - 1)) (threads (drop (k - 1) t)) p.same) }

  pub seen_end : k ≤ 1 → ones mask ≡ length (threads t)
  seen_end h = let e : k - 1 ≡ 0 = omega arith in p.same.number ∙ ap (λ (j : ℕ). length (threads (drop j t))) e
