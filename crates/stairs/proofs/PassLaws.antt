-- A pass along Q: each event is met, P passes as far as it needs, and it pulls at the beginning of its interval.
use Prim.Native.Nat.{ℕ, ◌+◌, ◌≤◌, ◌<◌}
use native.Mathlib.Omega.{arith}
use mathlib.Core.Path.{◌≡◌, refl, ap, ◌∙◌}
use mathlib.Core.Bool.{Bool, true, false}
use mathlib.Core.List.{List}
use lib.ListN.{length, set, replicate, length-set}
use lib.Seq.{get_or-set_same}
use Rattle.std.specs.Prelude.{Some, None}
use Rattle.model.specs.Trace.{Trace, Valid}
use Rattle.model.specs.Lists.{◌∈◌}
use Rattle.model.proofs.Lists.{get_d_mem, mem_place}
use Rattle.table.specs.declared.judged.Table.{Table}
use Rattle.table.specs.Judged.{events}
use Rattle.table.specs.Links.{began}
use Rattle.stairs.specs.Stairs.{at, slot_of, slots, Rule, Solution, Ready}
use Rattle.stairs.specs.Passes.{Moved, Upto, Reached, Met, Begun, nowhere, outside, asked, Pulled, stands, lifts, total, Below, Passed}
use Rattle.table.proofs.BeganFacts.{began_valid}
use Rattle.stairs.proofs.PlaceLaws.{equal_or_not, at_set, set_grows, total-set, place_up, place_order}
use Rattle.stairs.proofs.SlotLaws.{upto_start, upto_further}
use Rattle.stairs.proofs.RuleLaws.{asked-some, raise_below, rest_rule}

-- the events of Q before place j are at rest: each needs no more than what passed, event n, and their rules hold
pub record Rested (t : Trace) (m : ℕ) (P Q ends : List ℕ) (n j : ℕ) (need : List ℕ) : Type 0 where
  pub under : (x : ℕ) → x < j → at need (at Q x) ≤ n
  pub climbs : (x y : ℕ) → x < y → y < j → at need (at Q x) ≤ at need (at Q y)
  pub apart : (x : ℕ) → x < j → Rule t m P ends (at need) (at Q x)

-- before the event of Q at place j, with the events of P before place i passed, as far as event n
pub record Passing (t : Trace) (m : ℕ) (P Q ends need₀ : List ℕ) (i n j : ℕ) (raised : Bool) (need reach : List ℕ) : Type 0 where
  pub upto : Upto t P ends i n reach
  pub small : n < 65536
  pub same : length need ≡ length need₀
  pub grows : (k : ℕ) → at need₀ k ≤ at need k
  pub below : Below t m P Q ends need₀ need
  pub behind : (g : ℕ → ℕ) → Solution t m P Q ends need₀ g → (x : ℕ) → j ≤ x → x < length Q → n ≤ g (at Q x)
  pub more : total need₀ ≤ total need
  pub lifted : raised ≡ true → total need₀ < total need
  pub rest : raised ≡ false → Rested t m P Q ends n j need

pub passing_start : (t : Trace) (m : ℕ) (P Q ends need : List ℕ) (c : ℕ) → c ≡ slots → Passing t m P Q ends need 0 0 0 false need (replicate c 0)
passing_start t m P Q ends need c e =
    record {
      upto = upto_start t P ends c e;
      small = omega arith;
      same = refl;
      grows = λ k. omega arith;
      below = λ g s. s.above;
      behind = λ g s x a b. omega arith;
      more = omega arith;
      lifted = λ q. let z : ◌≡◌ {A = ℕ} 0 1 = cc in absurd (omega arith);
      rest = λ q. record { under = λ x h. absurd (omega arith); climbs = λ x y a h. absurd (omega arith); apart = λ x h. absurd (omega arith) };
    }

pub ready_moved : {s : Table} {m : ℕ} {P Q ends need : List ℕ} → Ready s m P Q ends need → Moved s P ends
ready_moved w = record { valid = w.lists.moved; up = w.lists.moved_up; room = w.ends_room }

climbs_to : {t : Trace} {m : ℕ} {P Q ends low : List ℕ} {g : ℕ → ℕ} → Solution t m P Q ends low g → (j k : ℕ) → j ∈ Q → k ∈ Q → j ≤ k → g j ≤ g k
climbs_to s j k j-in k-in h = equal_or_not j k (λ e. rw e (omega arith)) (λ n. s.climbs j k j-in k-in (omega arith))

-- ---- event k, at place j, is met

module _ {s : Table} {m : ℕ} {P Q ends need₀ : List ℕ} (w : Ready s m P Q ends need₀) {i n j : ℕ} {raised : Bool} {need reach : List ℕ}
    (p : Passing (events s) m P Q ends need₀ i n j raised need reach) (h : j < length Q) (k : ℕ) (e : k ≡ at Q j) where
  turn_in : k ∈ Q
  turn_in = rw e (get_d_mem Q j h)

  pub turn_valid : Valid (events s) k
  turn_valid = w.lists.others k turn_in

  pub turn_place : k < length need
  turn_place = let v = turn_valid in let r = w.need_room in let l = p.same in omega arith

  turn_before : (x : ℕ) → x < j → at Q x < k
  turn_before x b = let u = place_up Q w.lists.others_up x j b h in omega arith

  -- no later event stands before it
  turn_behind : (x : ℕ) → j ≤ x → x < length Q → k ≤ at Q x
  turn_behind x a b =
      equal_or_not x j (λ q. rw q (omega arith)) (λ q. let u = place_up Q w.lists.others_up j x (omega arith) b in omega arith)

  module _ {r : ℕ} {need' : List ℕ} (q : Met k n need r need') where
    met_grows : (x : ℕ) → at need x ≤ at need' x
    met_grows x = rw q.put (set_grows need k r turn_place q.larger.second x)

    met_other : (x : ℕ) → x < j → at need' (at Q x) ≡ at need (at Q x)
    met_other x b =
        let u = turn_before x b in
        rw q.put (at_set (λ y. y ≡ at need (at Q x)) need k r (at Q x) turn_place (λ f. absurd (omega arith)) (λ f. refl))

    met_behind : (g : ℕ → ℕ) → Solution (events s) m P Q ends need₀ g → (x : ℕ) → j ≤ x → x < length Q → r ≤ g (at Q x)
    met_behind g z x a b =
        let c = p.behind g z j (omega arith) h in
        let here = q.larger.least (g k) (rw e c) (p.below g z k turn_in) in
        let up = climbs_to z k (at Q x) turn_in (get_d_mem Q x b) (turn_behind x a b) in omega arith

    met_rest : Rested (events s) m P Q ends n j need → Rested (events s) m P Q ends r j need'
    met_rest z =
        let a = q.larger.first in
        record {
          under = λ x b. let f = met_other x b in let u = z.under x b in omega arith;
          climbs = λ x y b c. let f = met_other x (omega arith) in let d = met_other y c in let u = z.climbs x y b c in omega arith;
          apart = λ x b o v v-in c f d.
              let y = met_other x b in
              let u = z.apart x b o v v-in c f (omega arith) in
              let l = met_grows (began (events s) (at Q x)) in omega arith;
        }

    met_here : at need' k ≡ r
    met_here = rw q.put (get_or-set_same need k r 0 turn_place)

    -- and P passes as far
    passing_met : r < 65536 → {i' : ℕ} {reach' : List ℕ} → Reached (events s) P ends i' r reach' → Passing (events s) m P Q ends need₀ i' r j raised need' reach'
    passing_met d c =
        let l : length need' ≡ length need = ap length q.put ∙ length-set need k r in
        let t = total-set need k r turn_place in
        let u : total need' ≡ total (set need k r) = ap total q.put in
        let o = q.larger.second in
        let t₀ = p.more in
        record {
          upto = c.upto;
          small = d;
          same = l ∙ p.same;
          grows = λ x. let a = p.grows x in let b = met_grows x in omega arith;
          below = λ g z x x-in.
              rw q.put (at_set (λ y. y ≤ g x) need k r x turn_place
              (λ f. let a = met_behind g z j (omega arith) h in rw (f, e) a) (λ f. p.below g z x x-in));
          behind = met_behind;
          more = omega arith;
          lifted = λ f. let a = p.lifted f in omega arith;
          rest = λ f. met_rest (p.rest f);
        }

  -- ---- it pulls

  begun_place : {o : ℕ} → Begun (events s) m k (Some o) → o < length need
  begun_place (outside o) =
      let b = w.lists.begun k (turn_in) o in let a = turn_place in omega arith

  asked_below : {o : ℕ} → Begun (events s) m k (Some o) → (g : ℕ → ℕ) → Solution (events s) m P Q ends need₀ g → asked (events s) reach o ≤ g o
  asked_below (outside o) g z =
      let a = asked-some (events s) reach (began (events s) k) (slot_of (events s) (began (events s) k)) o.begins refl in
      let c = p.behind g z j (omega arith) h in
      let b = raise_below m k g p.upto o (z.apart k (turn_in)) (rw e c) in omega arith

  -- P has passed as far before every later event too
  asked_behind : {o : ℕ} → Begun (events s) m k (Some o) → (g : ℕ → ℕ) → Solution (events s) m P Q ends need₀ g → (x : ℕ) → j ≤ x → x < length Q → asked (events s) reach o ≤ g (at Q x)
  asked_behind (outside o) g z x a b =
      let c = w.lists.begun k (turn_in) o in
      let d = asked_below (outside o) g z in
      let f = turn_behind x a b in
      let u = climbs_to z (began (events s) k) (at Q x) c.0 (get_d_mem Q x b) (omega arith) in omega arith

  asked_rule : {o : ℕ} → Begun (events s) m k (Some o) → Reached (events s) P ends i n reach → at need k ≤ n → asked (events s) reach o ≤ at need o → Rule (events s) m P ends (at need) k
  asked_rule (outside o) r b low =
      let a = asked-some (events s) reach (began (events s) k) (slot_of (events s) (began (events s) k)) o.begins refl in
      rest_rule m k (at need) r b (omega arith)

  begun_asked : {o : ℕ} → Begun (events s) m k (Some o) → Valid (events s) o
  begun_asked (outside o) = began_valid (events s) k (turn_valid) o.begins

  -- with no such interval there is no rule to keep
  no_rule : (g : ℕ → ℕ) → Begun (events s) m k None → Rule (events s) m P ends g k
  no_rule g (nowhere none) = λ o. absurd (none o)

  stood : at need k ≡ n → Rule (events s) m P ends (at need) k → Rested (events s) m P Q ends n j need → Rested (events s) m P Q ends n (j + 1) need
  stood here r z =
      record {
        under = λ x c. equal_or_not x j (λ q. rw (q, ← e) (omega arith)) (λ q. z.under x (omega arith));
        climbs = λ x y c d.
            equal_or_not y j (λ q. let u = z.under x (omega arith) in rw (q, ← e) (omega arith)) (λ q. z.climbs x y c (omega arith));
        apart = λ x c. equal_or_not x j (λ q. rw (q, ← e) r) (λ q. z.apart x (omega arith));
      }

  -- it is at rest
  passing_stood : at need k ≡ n → (raised ≡ false → Rule (events s) m P ends (at need) k) → Passing (events s) m P Q ends need₀ i n (j + 1) raised need reach
  passing_stood here r =
      record {
        upto = p.upto;
        small = p.small;
        same = p.same;
        grows = p.grows;
        below = p.below;
        behind = λ g z x a d. p.behind g z x (omega arith) d;
        more = p.more;
        lifted = p.lifted;
        rest = λ f. stood here (r f) (p.rest f);
      }

  module _ {o : ℕ} (b : Begun (events s) m k (Some o)) (most : ℕ) (ea : most ≡ asked (events s) reach o) where
    -- P passes further, and it is met again
    passing_further : n < most → most < 65536 → Passing (events s) m P Q ends need₀ i most j raised need reach
    passing_further d f =
        record {
          upto = upto_further p.upto most (omega arith);
          small = f;
          same = p.same;
          grows = p.grows;
          below = p.below;
          behind = λ g z x a c. let u = asked_behind b g z x a c in omega arith;
          more = p.more;
          lifted = p.lifted;
          rest = λ q. let z = p.rest q in record { under = λ x a. let u = z.under x a in omega arith; climbs = z.climbs; apart = z.apart };
        }

    passing_pulled : Reached (events s) P ends i n reach → at need k ≡ n → {raised' : Bool} {need' : List ℕ} → Pulled o most raised need raised' need'
        → Passing (events s) m P Q ends need₀ i n (j + 1) raised' need' reach
    passing_pulled c here (stands low) = passing_stood here (λ f. asked_rule b c (omega arith) (omega arith))
    passing_pulled c here (lifts high) =
        let d = begun_place b in
        let t = total-set need o most d in
        let t₀ = p.more in
        record {
          upto = p.upto;
          small = p.small;
          same = length-set need o most ∙ p.same;
          grows = λ x. let u = p.grows x in let v = set_grows need o most d (omega arith) x in omega arith;
          below = λ g z x x-in.
              at_set (λ y. y ≤ g x) need o most x d (λ f. let u = asked_below b g z in rw f (omega arith)) (λ f. p.below g z x x-in);
          behind = λ g z x a d. p.behind g z x (omega arith) d;
          more = omega arith;
          lifted = λ f. omega arith;
          rest = λ f. let y : ◌≡◌ {A = ℕ} 0 1 = cc in absurd (omega arith);
        }

-- ---- the turn of event k

module _ {s : Table} {m : ℕ} {P Q ends need₀ : List ℕ} (w : Ready s m P Q ends need₀) {i n j : ℕ} {raised : Bool} {need reach : List ℕ}
    (p : Passing (events s) m P Q ends need₀ i n j raised need reach) (h : j < length Q) (k : ℕ) (e : k ≡ at Q j) {r : ℕ} {need' : List ℕ} (q : Met k n need r need') where
  pub turn_upto : Upto (events s) P ends i r reach
  turn_upto = upto_further p.upto r q.larger.first

  -- with no interval to pull at
  pub passing_none : Begun (events s) m k None → r < 65536 → {i' : ℕ} {reach' : List ℕ} → Reached (events s) P ends i' r reach' → Passing (events s) m P Q ends need₀ i' r (j + 1) raised need' reach'
  passing_none b d c = let z = passing_met w p h k e q d c in passing_stood w z h k e (met_here w p h k e q) (λ f. no_rule w z h k e (at need') b)

  module _ {o : ℕ} (b : Begun (events s) m k (Some o)) where
    pub turn_begun : Valid (events s) o
    turn_begun = begun_asked w p h k e b

    pub turn_pull : o < length need'
    turn_pull = let l = ap length q.put ∙ length-set need k r in let a = begun_place w p h k e b in omega arith

    module _ (d : r < 65536) {i' : ℕ} {reach' : List ℕ} (c : Reached (events s) P ends i' r reach') {most : ℕ} (ea : most ≡ asked (events s) reach' o) where
      pub passing_again : r < most → most < 65536 → Passing (events s) m P Q ends need₀ i' most j raised need' reach'
      passing_again = passing_further w (passing_met w p h k e q d c) h k e b most ea

      pub passing_turn : {raised' : Bool} {need'' : List ℕ} → Pulled o most raised need' raised' need'' → Passing (events s) m P Q ends need₀ i' r (j + 1) raised' need'' reach'
      passing_turn = passing_pulled w (passing_met w p h k e q d c) h k e b most ea c (met_here w p h k e q)

-- ---- the end of a pass

module _ {s : Table} {m : ℕ} {P Q ends need₀ : List ℕ} (w : Ready s m P Q ends need₀) {i n j : ℕ} {raised : Bool} {need reach : List ℕ}
    (p : Passing (events s) m P Q ends need₀ i n j raised need reach) (end : length Q ≤ j) where
  rest_solution : Rested (events s) m P Q ends n j need → Solution (events s) m P Q ends need₀ (at need)
  rest_solution z =
      record {
        climbs = λ x y x-in y-in b.
            let a = mem_place x-in in
            let c = mem_place y-in in
            let d = a.1 in
            let e = c.1 in
            let up = place_order Q w.lists.others_up a.0 c.0 d (rw (a.2, c.2) b) in
            rw (a.2, c.2) at (z.climbs a.0 c.0 up (omega arith));
        above = λ k k-in. p.grows k;
        apart = λ k k-in. let a = mem_place k-in in let d = a.1 in rw a.2 at (z.apart a.0 (omega arith));
      }

  pub passed : Passed (events s) m P Q ends need₀ raised need
  passed = record { same = p.same; grows = p.grows; below = p.below; more = p.lifted; rest = λ f. rest_solution (p.rest f) }
