-- The slots, and what is reached on them as the events of P pass.
use Prim.Native.Nat.{ℕ, zero, suc, ◌+◌, ◌≤◌, ◌<◌, max}
use native.Mathlib.Omega.{arith}
use mathlib.Core.Path.{◌≡◌, refl, sym, ◌∙◌}
use mathlib.Core.List.{List}
use lib.ListN.{length, set, replicate, length-set, length-replicate}
use Rattle.model.specs.Trace.{Trace, Valid}
use Rattle.model.proofs.Lists.{get_d_mem}
use Rattle.table.specs.declared.judged.Table.{Table}
use Rattle.table.specs.Judged.{events}
use Rattle.stairs.specs.Stairs.{at, slot_of, slots}
use Rattle.stairs.specs.Passes.{Moved, Noted, Upto, Reached}
use Rattle.stairs.proofs.PlaceLaws.{equal_or_not, at_set, set_grows, place_up}

-- ---- one event passes

module _ (t : Trace) (ends : List ℕ) (v : ℕ) (reach : List ℕ) where
  pub note_none : at ends v ≡ 0 → Noted t ends v reach reach
  note_none z = record { long = refl; grows = λ s. omega arith; above = omega arith; least = λ s b c f. c }

  module _ (s : ℕ) (e : s ≡ slot_of t v) where
    pub note_up : s < slots → length reach ≡ slots → (m : ℕ) → m ≡ max (at reach s) (at ends v) → Noted t ends v reach (set reach s m)
    note_up h w m em =
        let l : s < length reach = omega arith in
        record {
          long = length-set reach s m;
          grows = set_grows reach s m l (omega arith);
          above = at_set (λ x. at ends v ≤ x) reach s m (slot_of t v) l (λ q. omega arith) (λ q. absurd (q (sym e)));
          least = λ x c d f. at_set (λ y. y ≤ c) reach s m x l (λ q. let a = f (sym (q ∙ e)) in let b = rw q at d in omega arith) (λ q. d);
        }

-- ---- the events of P pass

zero-at : (n s : ℕ) → at (replicate n 0) s ≡ 0
zero-at zero s = refl
zero-at (suc n) zero = refl
zero-at (suc n) (suc s) = zero-at n s

pub upto_start : (t : Trace) (P ends : List ℕ) (n : ℕ) → n ≡ slots → Upto t P ends 0 0 (replicate n 0)
upto_start t P ends n e =
    record {
      long = length-replicate n 0 ∙ e;
      few = omega arith;
      under = λ k h. absurd (omega arith);
      above = λ k h. absurd (omega arith);
      least = λ s b f. let z = zero-at n s in omega arith;
    }

pub upto_further : {t : Trace} {P ends : List ℕ} {i n : ℕ} {reach : List ℕ} → Upto t P ends i n reach → (r : ℕ) → n ≤ r → Upto t P ends i r reach
upto_further u r h =
    record { long = u.long; few = u.few; under = λ k b. let a = u.under k b in omega arith; above = u.above; least = u.least }

module _ {s : Table} {P ends : List ℕ} {i n : ℕ} {reach : List ℕ} (m : Moved s P ends) (u : Upto (events s) P ends i n reach) where
  pub advance_end : length P ≤ i → Reached (events s) P ends (length P) n reach
  advance_end h =
      let f = u.few in
      let e : i ≡ length P = omega arith in
      rw (← e) (record { upto = u; over = λ k a b. absurd (omega arith) })

  pub advance_stop : n < at P i → Reached (events s) P ends i n reach
  advance_stop b =
      record {
        upto = u;
        over = λ k a c. equal_or_not k i (λ q. rw q (omega arith)) (λ q. let d = place_up P m.up i k (omega arith) c in omega arith);
      }

  module _ (h : i < length P) (v : ℕ) (e : v ≡ at P i) where
    pub advance_valid : Valid (events s) v
    advance_valid = rw e (m.valid (at P i) (get_d_mem P i h))

    pub advance_room : v < length ends
    advance_room = let a = advance_valid in let b = m.room in omega arith

    pub advance_more : at P i ≤ n → {reach' : List ℕ} → Noted (events s) ends v reach reach' → Upto (events s) P ends (i + 1) n reach'
    advance_more b q =
        let z = rw e at q in
        record {
          long = z.long ∙ u.long;
          few = omega arith;
          under = λ k c. equal_or_not k i (λ y. rw y (omega arith)) (λ y. u.under k (omega arith));
          above = λ k c.
              equal_or_not k i (λ y. rw y z.above)
              (λ y. let a = u.above k (omega arith) in let d = z.grows (slot_of (events s) (at P k)) in omega arith);
          least = λ y c g. z.least y c (u.least y c (λ k d. g k (omega arith))) (g i (omega arith));
        }
