-- The ways to the whole cone, or to a root in it.
use Prim.Native.Nat.{ℕ, zero, suc, ◌+◌, ◌-◌, ◌≤◌, ◌<◌}
use native.Mathlib.Omega.{arith}
use mathlib.Core.Path.{◌≡◌, sym, ◌∙◌}
use mathlib.Core.Logic.{◌≢◌, inl, inr}
use mathlib.Core.Bool.{Bool, true, false}
use mathlib.Core.List.{List}
use lib.ListN.{length, get_or, replicate, length-replicate, get_or-replicate, get_or-eq_default}
use lib.Dec.{eqb, ltb}
use borrow.Author.Tests.{eqb-true, eqb-false, ltb-true, ltb-false}
use Rattle.std.specs.Prelude.{Result, Ok, is_ok}
use Rattle.model.specs.Trace.{Trace, Valid, fork, thread_of, kind_of, object_of}
use Rattle.model.specs.Lists.{◌∈◌}
use Rattle.model.specs.Good.{max_thread}
use Rattle.model.specs.Cone.{InCone, Brings, root, brought, precedes, observes, closes}
use Rattle.model.specs.Awaits.{forked, joined}
use Rattle.model.proofs.Tests.{by_cases}
use Rattle.model.proofs.Lists.{mem_place}
use Rattle.model.proofs.ConeEvents.{cone_valid}
use Rattle.table.specs.Links.{previous, waits_for, release_of}
use Rattle.table.specs.declared.judged.Table.{Table}
use Rattle.table.specs.Judged.{events}
use Rattle.table.proofs.LinkFacts.{previous_earlier, previous_last, reads_observed, joined_last, joined_thread, fork-only, acquires_release}
use Rattle.cone.specs.declared.RootInside.{RootInside}
use Rattle.cone.specs.Tops.{Rooted, Told, none_in, one_in}
use Rattle.cone.specs.Following.{no_root, Bars, Grown, Answer, reached, going, Forked, Brought, Following, Round, Behind, Seeded}
use Rattle.cone.proofs.BarLaws.{root_no}
use Rattle.cone.proofs.RaiseLaws.{goes, within_upto}
use Rattle.cone.proofs.RoundLaws.{behind_one, behind_none}
use Rattle.cone.proofs.BringLaws.{forked_kept}

-- ---- before the roots

none : (c : ℕ) → get_or (replicate {A = ℕ} (max_thread + 1) 0) c 0 ≡ 0
none c =
    by_cases (ltb c (max_thread + 1))
    (λ e. get_or-replicate (max_thread + 1) c 0 0 (ltb-true c (max_thread + 1) e))
    (λ e. get_or-eq_default (replicate (max_thread + 1) 0) 0 {n = c} (let z = ltb-false c (max_thread + 1) e in omega (arith, length-replicate {A = ℕ} (max_thread + 1) 0)))

pub outside_start : {t : Trace} {R bars : List ℕ} → Bars t R bars → (tops : List ℕ) → tops ≡ replicate (max_thread + 1) 0 → Following t bars (replicate (max_thread + 1) 0) tops
outside_start {t} {R} {bars} b tops e =
    let zeros = replicate {A = ℕ} (max_thread + 1) 0 in
    let size : length zeros ≡ max_thread + 1 = length-replicate {A = ℕ} (max_thread + 1) 0 in
    rw e
    record {
      long = omega arith;
      sound = record {
        long = omega arith;
        within = λ c ne. absurd (ne (none c));
        thread = λ c ne. absurd (ne (none c));
        below = λ c l.
            let z = none c in
            by_cases (eqb (get_or bars c 0) no_root)
            (λ q. let y : get_or bars c 0 ≡ no_root = eqb-true _ _ q in omega arith)
            (λ q. let y = (b.barred.valid c l (eqb-false _ _ q)).positive in omega arith);
      };
      followed = λ j v l. let z = none (thread_of t j) in let y = v.positive in absurd (omega arith);
      forked = λ j v l. let z = none (thread_of t j) in let y = v.positive in absurd (omega arith);
    }

-- ---- after a round

-- what is left to follow in the first m threads, of n events each
unfoldable pub left : ℕ → ℕ → List ℕ → ℕ
left n zero done = 0
left n (suc m) done = (n - get_or done m 0) + left n m done

left_le : (n m : ℕ) {done done' : List ℕ} → Grown done done' → left n m done' ≤ left n m done
unfolding left
left_le n zero g = omega arith
left_le n (suc m) g = let x = left_le n m g in let y = g.up m in omega arith

left_less : (n m c : ℕ) {done done' : List ℕ} → Grown done done' → c < m → get_or done c 0 < get_or done' c 0 → get_or done c 0 < n → left n m done' < left n m done
unfolding left
left_less n zero c g l u h = absurd (omega arith)
left_less n (suc m) c g l u h =
    by_cases (eqb c m)
    (λ q.
    let e = eqb-true c m q in
    let x = left_le n m g in
    let y = rw e at u in
    let z = rw e at h in omega arith)
    (λ q.
    let ne = eqb-false c m q in
    let x = left_less n m c g (omega arith) u h in
    let y = g.up m in omega arith)

module _ {t : Trace} {bars R done tops : List ℕ} (p : Seeded t bars R 0 done tops) {done' tops' : List ℕ} (a : Answer t bars (Round t bars (max_thread + 1) done done' tops tops') (Ok tt)) where
  pub outside_less : {b : Bool} → Behind done tops b → b ≡ true → left (length t) (max_thread + 1) done' < left (length t) (max_thread + 1) done
  outside_less d e =
      let f = goes a in
      let z = behind_one d e in
      let c = z.0 in
      let l = z.1 in
      let u = z.2 in
      let r = f.reaches c (omega arith) in
      let v = (p.still.sound.within c (omega arith)).valid.bounded in
      left_less (length t) (max_thread + 1) c f.further (omega arith) (omega arith) (omega arith)

  pub outside_more : Seeded t bars R 0 done' tops'
  outside_more =
      let f = goes a in
      record {
        still = f.still;
        covers = λ n l h. let y = p.covers n l h in let z = f.grown.up (thread_of t (previous t (get_or R n 0))) in omega arith;
        forked = λ n l h. forked_kept f.grown (p.forked n l h);
      }

-- ---- at the end

pub told : {t : Trace} {R bars : List ℕ} → Bars t R bars → {tops : List ℕ} {r : Result (Unit {0}) RootInside} → Answer t bars (Told t R tops true) r → (b : Bool) → b ≡ is_ok r → Told t R tops b
told {R = R} s (reached {c = c} l ne w) b e = rw e (one_in (s.root c l ne) (w.inside R s))
told s (going g) b e = rw e g

module _ {s : Table} {R bars done tops : List ℕ} (g : Rooted s R) (b : Bars (events s) R bars) (p : Seeded (events s) bars R 0 done tops) (level : (c : ℕ) → c ≤ max_thread → get_or tops c 0 ≤ get_or done c 0) where
  abbrev t : Trace
  t = events s

  -- event k is up to the top of its thread
  abbrev Under : ℕ → Type 0
  Under k = k ≤ get_or tops (thread_of t k) 0

  all_brought : (k : ℕ) → Valid t k → Under k → Brought t bars tops k
  all_brought k v u = let l = level (thread_of t k) (s.links.good.thread_limit k v) in p.still.followed k v (omega arith)

  all_forked : (k : ℕ) → Valid t k → Under k → Forked t tops k
  all_forked k v u = let l = level (thread_of t k) (s.links.good.thread_limit k v) in p.still.forked k v (omega arith)

  -- what an event waits for is such a one: its thread's fork, and where the event is such a one the joined thread's events
  forked_under : (k j : ℕ) → Valid t k → Forked t tops k → kind_of t j ≡ fork → object_of t j ≡ thread_of t k → Under j
  forked_under k j v u f o = rw (fork-only t s.links.good.well_formed k v j f o) at u.covers

  -- what such an event brings in is such a one
  reaches : (k j : ℕ) → Valid t k → Under k → Brings t R k j → Under j
  reaches k j v u (precedes (inl y)) = let z = y.less in rw y.thread (omega arith)
  reaches k j v u (precedes (inr (forked f o))) = forked_under k j v (all_forked k v u) f o
  reaches k j v u (precedes (inr (joined f w o))) =
      let low = joined_last t k j f w o in
      let one = w.positive in
      let e : thread_of t (waits_for t k) ≡ thread_of t j = joined_thread t k f (λ z. let y : ⊥ = omega arith in y) ∙ sym o in
      let x : waits_for t k ≤ get_or tops (thread_of t j) 0 = rw e at (all_brought k v u).seen in
      omega arith
  reaches k j v u (observes c o ne) = let q : waits_for t k ≡ j = reads_observed t k c ∙ o in rw q at (all_brought k v u).seen
  reaches k j v u (closes c out o ne) =
      let q : release_of t k ≡ j = acquires_release t k c ∙ o in
      let lc = s.links.good.thread_limit k v in
      rw q at ((all_brought k v u).closing (root_no bars (thread_of t k) (λ y. out (get_or bars (thread_of t k) 0) (b.root (thread_of t k) lc y) (b.barred.thread (thread_of t k) lc y))))

  all : {k : ℕ} → InCone t R k → Under k
  all {k} (root {r = r} m (inr (forked f o))) =
      let y = mem_place m in
      let h : Forked t tops r = rw y.2 at (p.forked y.0 (omega arith) y.1) in
      forked_under r k (b.valid r m) h f o
  all {k} (root {r = r} m (inr (joined f w o))) = absurd (g.no_join r m f)
  all {k} (root {r = r} m (inl x)) =
      let y = mem_place m in
      let h : previous t r ≤ get_or tops (thread_of t (previous t r)) 0 = rw y.2 at (p.covers y.0 (omega arith) y.1) in
      let low = previous_last t k r x in
      let one = x.first in
      let e : thread_of t (previous t r) ≡ thread_of t k = (previous_earlier t r (omega arith)).thread ∙ sym x.thread in
      let z : previous t r ≤ get_or tops (thread_of t k) 0 = rw e at h in
      omega arith
  all {k = j} (brought {k = k} x d) = reaches k j (cone_valid t R b.valid x) (all x) d

  under_in : (k : ℕ) → Valid t k → Under k → InCone t R k
  under_in k v u =
      let one = v.positive in
      let ne : get_or tops (thread_of t k) 0 ≢ 0 = λ z. let y : ⊥ = omega arith in y in
      let e = p.still.sound.thread (thread_of t k) ne in
      (within_upto (p.still.sound.within (thread_of t k) ne) k one u (sym e)).inside R b

  root_above : (r : ℕ) → r ∈ R → ¬ InCone t R r
  root_above r m x =
      let u = all x in
      let y = p.still.sound.below (thread_of t r) (s.links.good.thread_limit r (b.valid r m)) in
      let z = b.bar r m in
      let w : ⊥ = omega arith in w

  none_reached : Told (events s) R tops true
  none_reached =
      none_in root_above
      (record {
        is = λ k v. ((λ u. under_in k v u), (λ x. all x));
        topped = record { valid = λ c ne. (p.still.sound.within c ne).valid; thread = p.still.sound.thread };
      })

pub told_out : {s : Table} {R bars done tops : List ℕ} → Rooted s R → Bars (events s) R bars → Seeded (events s) bars R 0 done tops → {b : Bool} → Behind done tops b → b ≡ false → Answer (events s) bars (Told (events s) R tops true) (Ok tt)
told_out g b p d e = going (none_reached g b p (behind_none d e))
