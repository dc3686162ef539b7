-- The ways to a pair's witness.
use Prim.Native.Nat.{ℕ, ◌+◌, ◌-◌, ◌≤◌}
use native.Mathlib.Omega.{arith}
use mathlib.Core.Path.{◌≡◌, refl, sym, ◌∙◌, ap}
use mathlib.Core.Logic.{◌≢◌, ◌⊎◌, inl, inr, ⊎_elim}
use mathlib.Core.Bool.{Bool, true, false, not}
use mathlib.Core.List.{List}
use lib.ListN.{length, take, drop}
use lib.Seq.{length-take-le}
use borrow.Author.Tests.{not-true, not-false}
use Rattle.std.specs.Prelude.{Option as RustOption, None}
use Rattle.model.specs.Trace.{Trace, Valid, join, thread_of, kind_of}
use Rattle.model.specs.Lists.{◌∈◌, in_front, own, only, just, all_but, pair}
use Rattle.model.specs.Observed.{observed}
use Rattle.model.specs.Good.{max_events, max_thread}
use Rattle.model.specs.Cone.{InCone, brought, precedes, observes}
use Rattle.model.specs.Race.{Access, Apart}
use Rattle.model.proofs.Tests.{by_cases, just-true, just-false, true-all_but, all_but-true}
use Rattle.model.proofs.Lists.{mem_only, only_mem, increasing_keep, front_taken}
use Rattle.model.proofs.Threads.{for_pair, conflicting_apart}
use Rattle.model.proofs.ConeEvents.{cone_valid}
use Rattle.decision.specs.Rounds.{cone}
use Rattle.decision.specs.Stairs.{climb, least_merge}
use Rattle.decision.specs.Decision.{witness, is_conflicting, shown_for}
use Rattle.decision.proofs.ConeExact.{cone_exactly, cone_increasing}
use Rattle.decision.proofs.ListingExact.{conflicting_exactly}
use Rattle.table.specs.declared.judged.Table.{Table}
use Rattle.table.specs.Judged.{events}
use Rattle.cone.specs.Tops.{Rooted, Told}
use Rattle.cone.specs.Split.{Splits, Moved, Others}
use Rattle.cone.proofs.ConeLaws.{under-cone, moved-cone, others_cone, told_tops, roots_out, root_in, both_few, rest_whole}
use Rattle.stairs.specs.Stairs.{at, Ready, Solved}
use Rattle.stairs.specs.Passes.{Climbing}
use Rattle.stairs.proofs.ClimbLaws.{climb-length}
use Rattle.bounds.specs.Parts.{Parts}
use Rattle.bounds.specs.Bounds.{Given, Ended, Needed, Bound, Covers}
use Rattle.bounds.proofs.StairLaws.{parts_lists, merge_is}
use Rattle.races.specs.Witness.{Shows}
use Rattle.races.specs.Engine.{if_correct, shown_of, Coned, Joinable, Mergeable}

-- ---- `merge`

module _ {s : Table} {m : ℕ} {tops P Q out : List ℕ} (g : Mergeable s m tops P Q out) where
  pub merge-given : (by : List ℕ) → length by ≡ max_events + 1 → Given s m P Q by
  merge-given by l = let z = s.links.good.size in record { parts = g.joinable.parts; room = omega arith }

  pub merge_climbing : (need : List ℕ) → length need ≡ max_events + 1 → Climbing P Q need out
  merge_climbing need l =
      let z = s.links.good.size in
      let f = g.joinable.few in
      let o = g.room in
      record { stairs = λ k i. let b = (g.joinable.parts.others k i).bounded in omega arith; room = omega arith }

module _ {s : Table} {m : ℕ} {P Q ends low : List ℕ} (e : Ended s m P Q ends) (n : Needed s m P Q (Bound (events s) P Q) low) where
  pub merge_ready : Ready s m P Q ends low
  merge_ready = record { lists = parts_lists s.words.now s.links e.given.parts; ends_room = e.given.room; need_room = n.given.room }

  module _ {need : List ℕ} (x : Solved (events s) m P Q ends low need) where
    merged : climb (at need) P Q ≡ least_merge (events s) P Q
    merged = merge_is s.words.now s.links e.given.parts e.are n.are x.least

    pub merge_done : (out : List ℕ) {out' : List ℕ} → out' ≡ in_front (climb (at need) P Q) out → out' ≡ in_front (least_merge (events s) P Q) out
    merge_done out q = q ∙ ap (λ (l : List ℕ). in_front l out) merged

-- ---- `join`

module _ {s : Table} {m : ℕ} {tops P Q : List ℕ} (g : Joinable s m tops P Q) (out : List ℕ) where
  pub join_mergeable : length out ≡ max_events → Mergeable s m tops P Q out
  join_mergeable l = let z = s.links.good.size in record { joinable = g; room = omega arith }

  merge-length : length (least_merge (events s) P Q) ≡ length P + length Q
  unfolding least_merge
  merge-length = climb-length _ P Q

  module _ {out' : List ℕ} (e : out' ≡ in_front (least_merge (events s) P Q) out) where
    front_is : take (length P + length Q) out' ≡ least_merge (events s) P Q
    front_is = rw (e, ← merge-length) (front_taken (least_merge (events s) P Q) out)

    pub join_front : length P + length Q ≡ length (take (length P + length Q) out')
    join_front = sym (ap length front_is ∙ merge-length)

    pub join_few : length (take (length P + length Q) out') ≤ length (events s)
    join_few = let a = join_front in let f = g.few in omega arith

    pub join-shown : {list list' : List ℕ} {r : RustOption ℕ} → Shows (if_correct (events s) (take (length P + length Q) out')) list list' r → Shows (if_correct (events s) (least_merge (events s) P Q)) list list' r
    join-shown x = rw front_is at x

-- ---- `split`

module _ (t : Trace) {tops : List ℕ} (c : Coned t tops) where
  abbrev R : List ℕ
  R = c.roots

  valid : (r : ℕ) → r ∈ R → Valid t r
  valid = c.apart.valid

  abbrev P : ℕ → List ℕ
  P m = own t m (cone t R)

  abbrev Q : ℕ → List ℕ
  Q m = only t (all_but m) (cone t R)

  in_cone : (k : ℕ) → k ∈ cone t R → InCone t R k
  in_cone k n = (cone_exactly t R valid k).0 n

  cone_in : {k : ℕ} → InCone t R k → k ∈ cone t R
  cone_in {k} x = (cone_exactly t R valid k).1 x

  side : (m k : ℕ) → InCone t R k → (k ∈ P m) ⊎ (k ∈ Q m)
  side m k x =
      by_cases (just m (thread_of t k)) (λ e. inl (only_mem t (just m) (cone_in x) e)) (λ e. inr (only_mem t (all_but m) (cone_in x) (true-all_but m (thread_of t k) (just-false m (thread_of t k) e))))

  pub cone-parts : (m : ℕ) → Parts t m (P m) (Q m)
  cone-parts m = record {
    moved = λ k n. cone_valid t R valid (of_P k n);
    moved_thread = λ k n. just-true m (thread_of t k) (mem_only t (just m) k (cone t R) n).1;
    moved_up = increasing_keep (λ k. just m (thread_of t k)) (cone t R) (cone_increasing t R);
    moved_earlier = λ j k n e.
        let y = mem_only t (just m) k (cone t R) n in
        only_mem t (just m) (cone_in (brought (of_P k n) (precedes (inl e)))) (rw e.thread y.1);
    others = λ k n. cone_valid t R valid (of_Q k n);
    others_thread = λ k n. all_but-true m (thread_of t k) (mem_only t (all_but m) k (cone t R) n).1;
    others_up = increasing_keep (λ k. all_but m (thread_of t k)) (cone t R) (cone_increasing t R);
    others_earlier = λ j k n e.
        let y = mem_only t (all_but m) k (cone t R) n in
        only_mem t (all_but m) (cone_in (brought (of_Q k n) (precedes (inl e)))) (rw e.thread y.1);
    awaited = λ j k n a. side m j (brought (⊎_elim (of_P k) (of_Q k) n) (precedes (inr a)));
    seen = λ k n r o. side m (observed t k) (brought (⊎_elim (of_P k) (of_Q k) n) (observes r refl o));
  }
    where
      of_P : (k : ℕ) → k ∈ own t m (cone t c.roots) → InCone t c.roots k
      of_P k n = in_cone k (mem_only t (just m) k (cone t c.roots) n).0

      of_Q : (k : ℕ) → k ∈ only t (all_but m) (cone t c.roots) → InCone t c.roots k
      of_Q k n = in_cone k (mem_only t (all_but m) k (cone t c.roots) n).0

  cone_covers : (m : ℕ) → Covers t m (Q m) tops
  cone_covers m = record {
    is = λ k v ne. (
      (λ n. (c.are.is k v).1 (in_cone k (mem_only t (all_but m) k (cone t R) n).0)),
      (λ l. only_mem t (all_but m) (cone_in ((c.are.is k v).0 l)) (true-all_but m (thread_of t k) ne)),
    );
  }

module _ {s : Table} {tops : List ℕ} (c : Coned (events s) tops) {m : ℕ} where
  pub split_room : m ≤ max_thread → (out : List ℕ) → length out ≡ max_events → Splits s tops m out
  split_room b out l = let z = s.links.good.size in record { topped = c.are.topped; thread = b; room = omega arith }

  pub split_joinable : {i n : ℕ} {moved others : List ℕ} → Moved (events s) m tops i moved → Others (events s) m tops n others → length moved ≡ max_events → Joinable s m tops (take (max_events - i) (drop i moved)) (take n others)
  split_joinable {i} {n} {moved} x y l =
      let a = moved-cone c.apart c.are x in
      let o = others_cone c.apart c.are y in
      rw (rest_whole moved max_events i l) (record { parts = rw (a, o) (cone-parts (events s) c m); covers = rw o (cone_covers (events s) c m); few = both_few x y })

pub split_others : (s : Table) {tops : List ℕ} {m n : ℕ} {others : List ℕ} → Others (events s) m tops n others → length others ≡ max_events → n ≡ length (take n others)
split_others s {n = n} {others = others} y l = let z = s.links.good.size in let u = y.few in sym (length-take-le n others (omega arith))

pub split_shown : {t : Trace} {tops : List ℕ} {m i n : ℕ} {moved others : List ℕ} → Moved t m tops i moved → Others t m tops n others → length moved ≡ max_events → {list list' : List ℕ} {r : RustOption ℕ}
    → Shows (if_correct t (least_merge t (take (max_events - i) (drop i moved)) (take n others))) list list' r → Shows (shown_of t m tops) list list' r
unfolding shown_of
split_shown {i = i} {moved = moved} x y l z = rw (rest_whole moved max_events i l, x.is, y.is) at z

-- ---- the pair

module _ {t : Trace} (a b : ℕ) (conflicting : is_conflicting t a b ≡ true) where
  apart : Apart t (pair a b)
  apart = conflicting_apart t a b ((conflicting_exactly t a b).0 conflicting)

  pub valid_a : Valid t a
  valid_a = ((conflicting_exactly t a b).0 conflicting).first

  module _ {tops : List ℕ} (x : Bool) (c : Told t (pair a b) tops x) where
    pub root_found : not x ≡ true → {list : List ℕ} → Shows (witness t a b) list list None
    unfolding shown_for
    root_found w = rw (root_in apart c (not-true x w)) (record { says = refl; wrote = refl })

    module _ (w : not x ≡ false) where
      pub pair_coned : Coned t tops
      pair_coned = record { roots = pair a b; apart = apart; are = told_tops c (not-false x w) }

      pub pair-shown : (m : ℕ) → m ≡ thread_of t a → {list list' : List ℕ} {r : RustOption ℕ} → Shows (shown_of t m tops) list list' r → Shows (witness t a b) list list' r
      unfolding shown_of if_correct shown_for
      pair-shown m em s = rw (roots_out apart c (not-false x w), ← em, ← under-cone apart (told_tops c (not-false x w))) s

-- no access is a join
no_join : (t : Trace) (k : ℕ) → Access t k → kind_of t k ≢ join
no_join t k x e = ⊎_elim (λ r. let n : ⊥ = omega arith in n) (λ w. let n : ⊥ = omega arith in n) x

pub rooted : {table : Table} (a b : ℕ) → is_conflicting (events table) a b ≡ true → Rooted table (pair a b)
rooted {table} a b conflicting =
    let t = events table in
    let accesses = ((conflicting_exactly t a b).0 conflicting).accesses in
    record { apart = apart a b conflicting; no_join = for_pair (λ r. kind_of t r ≢ join) (no_join t a accesses.0) (no_join t b accesses.1) }
