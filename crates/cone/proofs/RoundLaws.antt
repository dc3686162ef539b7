-- The ways through a round, through the roots, and to the whole cone.
use Prim.Native.Nat.{ℕ, suc, ◌+◌, ◌-◌, ◌≤◌, ◌<◌}
use native.Mathlib.Omega.{arith}
use mathlib.Core.Path.{◌≡◌, sym, ◌∙◌, ap}
use mathlib.Core.Logic.{◌≢◌, inl, inr}
use mathlib.Core.Bool.{Bool, true, false, true≢false, false≢true}
use mathlib.Core.List.{List, [], ◌∷◌, reverse}
use lib.ListN.{length, get_or, length-reverse}
use lib.Dec.{eqb, ltb}
use borrow.Author.Tests.{eqb-true, eqb-false, ltb-true, ltb-false}
use Rattle.std.specs.Prelude.{Result, Ok}
use Rattle.std.proofs.lemmas.List.{get_or-reverse}
use Rattle.std.proofs.lemmas.Grind.{get_or_default_zero}
use Rattle.std.specs.List.{list_any, zip}
use Rattle.std.proofs.lemmas.List.Folds.{list_any_at}
use Rattle.std.proofs.lemmas.Slice.Zip.{length-zip, get_or-zip}
use Rattle.model.specs.Trace.{Trace, thread_of}
use Rattle.model.specs.Good.{max_thread}
use Rattle.model.specs.Cone.{Precedes, root}
use Rattle.model.proofs.Tests.{by_cases, clash}
use Rattle.model.proofs.ConeEvents.{precedes_valid}
use Rattle.model.proofs.Lists.{get_d_mem}
use Rattle.table.specs.Links.{previous, fork_of}
use Rattle.table.specs.declared.judged.Table.{Table}
use Rattle.table.specs.Judged.{events}
use Rattle.table.proofs.LinkFacts.{previous_earlier, fork_awaited}
use Rattle.cone.specs.declared.RootInside.{RootInside}
use Rattle.cone.specs.Following.{no_root, Bars, Within, Coming, Answer, going, Raised, Following, Going, Caught, Round, Behind, one_behind, none_behind, IsRoot, BeforeRoot, Started, Seeded}
use Rattle.cone.proofs.RaiseLaws.{goes, answers, grown_none, grown_more}
use Rattle.cone.proofs.BringLaws.{brought_kept, forked_kept}

-- ---- `behind`

-- a list that passes somewhere, by place
pub any_place : {X : Type 0} (p : X → Bool) (d : X) (l : List X) → true ≡ list_any p l → (i : ℕ) × (i < length l) × (p (get_or l i d) ≡ true)
any_place p d [] e = absurd (true≢false e)
any_place p d (x ∷ l) e =
    by_cases (p x)
    (λ h. (0, omega arith, h))
    (λ h. let r = any_place p d l (rw h at e) in (suc r.0, omega (arith, r.1), r.2))

pub none_place : {X : Type 0} (p : X → Bool) (d : X) (l : List X) → false ≡ list_any p l → (i : ℕ) → i < length l → p (get_or l i d) ≡ false
none_place p d l e i h = by_cases (p (get_or l i d)) (λ t. clash (list_any_at p l i d h t) (sym e)) (λ f. f)

-- the first of two numbers is lower
abbrev pub rises : ℕ × ℕ → Bool
rises p = ltb p.0 p.1

pub behind_any : (done tops : List ℕ) → length done ≡ max_thread + 1 → length tops ≡ max_thread + 1 → (b : Bool) → b ≡ list_any rises (zip done tops) → Behind done tops b
behind_any done tops ld lt true e =
    let x = any_place rises (0, 0) (zip done tops) e in
    let i = x.0 in
    let h : i < max_thread + 1 = omega (arith, x.1, length-zip done tops) in
    let z = get_or-zip done tops i (0, 0) (omega arith) (omega arith) in
    let r : rises (get_or done i 0, get_or tops i 0) ≡ true = rw z at x.2 in
    one_behind {c = i} (omega arith) (ltb-true _ _ r)
behind_any done tops ld lt false e =
    none_behind (λ c l.
    let h : c < length (zip done tops) = omega (arith, length-zip done tops) in
    let z = get_or-zip done tops c (0, 0) (omega arith) (omega arith) in
    let r : rises (get_or done c 0, get_or tops c 0) ≡ false = rw z at (none_place rises (0, 0) (zip done tops) e c h) in
    ltb-false _ _ r)

pub behind_one : {done tops : List ℕ} {b : Bool} → Behind done tops b → b ≡ true → (c : ℕ) × (c ≤ max_thread) × (get_or done c 0 < get_or tops c 0)
behind_one (one_behind {c = c} l h) e = (c, l, h)
behind_one (none_behind f) e = absurd (false≢true e)

pub behind_none : {done tops : List ℕ} {b : Bool} → Behind done tops b → b ≡ false → (c : ℕ) → c ≤ max_thread → get_or tops c 0 ≤ get_or done c 0
behind_none (one_behind l h) e = absurd (true≢false e)
behind_none (none_behind f) e = f

-- ---- `round`

module _ {s : Table} {bars done tops : List ℕ} (g : Going s bars done tops) where
  pub round_start : Round (events s) bars 0 done done tops tops
  round_start = record { still = g.following; grown = grown_none tops; further = grown_none done; reaches = λ c l. absurd (omega arith) }

  module _ {c : ℕ} {done' tops' : List ℕ} (p : Round (events s) bars c done done' tops tops') where
    pub round_going : Going s bars done' tops'
    round_going = record { barred = g.barred; following = p.still }

    pub round_more : {done'' tops'' : List ℕ} → Answer (events s) bars (Caught (events s) bars c done' done'' tops' tops'') (Ok tt) → Round (events s) bars (c + 1) done done'' tops tops''
    round_more a =
        let f = goes a in
        record {
          still = f.still;
          grown = grown_more p.grown f.grown;
          further = grown_more p.further f.further;
          reaches = λ d l.
              by_cases (eqb d c)
              (λ q. let z = eqb-true d c q in rw z (let x = p.grown.up c in let y = f.reaches in omega arith))
              (λ q. let ne = eqb-false d c q in let x = p.reaches d (omega arith) in let y = f.further.up d in omega arith);
        }

    pub round_end : max_thread + 1 ≤ c → Answer (events s) bars (Round (events s) bars (max_thread + 1) done done' tops tops') (Ok tt)
    round_end h = going (record { still = p.still; grown = p.grown; further = p.further; reaches = λ d l. p.reaches d (omega arith) })

-- ---- `start`

module _ (s : Table) {bars : List ℕ} where
  before_root : (p r : ℕ) → IsRoot (events s) bars r → Precedes (events s) p r → Within (events s) bars p
  before_root p r i x =
      let t = events s in
      let v = i.valid in
      let size = s.links.good.size in
      let high = v.bounded in
      let ne : get_or bars (thread_of t r) 0 ≢ no_root = λ z. let y = i.bar in let u : ⊥ = omega arith in u in
      record {
        valid = precedes_valid t p r v x;
        inside = λ R b. let m = b.root (thread_of t r) (s.links.good.thread_limit r v) ne in root (rw i.bar at m) x;
      }

  pub start_coming : (p r : ℕ) → p ≡ previous (events s) r → IsRoot (events s) bars r → Coming (events s) bars p
  start_coming p r e i = record { within = λ q. rw e (before_root (previous (events s) r) r i (inl (previous_earlier (events s) r (rw e at q)))) }

  pub start_forked : (p r : ℕ) → p ≡ fork_of (events s) r → IsRoot (events s) bars r → Coming (events s) bars p
  start_forked p r e i = record { within = λ q. rw e (before_root (fork_of (events s) r) r i (inr (fork_awaited (events s) r (rw e at q)))) }

module _ {t : Trace} {bars : List ℕ} where
  pub before_both : {o p r : ℕ} → o ≡ fork_of t r → p ≡ previous t r → {tops tops₁ tops' : List ℕ} {x : Result (Unit {0}) RootInside}
      → Answer t bars (Raised t bars o tops tops₁) (Ok tt) → Answer t bars (Raised t bars p tops₁ tops') x → Answer t bars (BeforeRoot t bars r tops tops') x
  before_both {o} {p} {r} eo ep {tops} {tops₁} {tops'} i a =
      let g = goes i in
      answers (λ (f : Raised t bars p tops₁ tops'). record {
        sound = f.sound;
        grown = grown_more g.grown f.grown;
        covers = rw (← ep) f.covers;
        forked = record { covers = rw (← eo) (let x = f.grown.up (thread_of t o) in let y = g.covers in omega arith) };
      }) a

  pub following_kept : {r : ℕ} {done tops tops' : List ℕ} → Following t bars done tops → BeforeRoot t bars r tops tops' → Following t bars done tops'
  following_kept f r = record { long = f.long; sound = r.sound; followed = λ j v l. brought_kept r.grown (f.followed j v l); forked = λ j v l. forked_kept r.grown (f.forked j v l) }

  pub started : {r : ℕ} {done done' tops tops' tops'' : List ℕ} {c : ℕ} {x : Result (Unit {0}) RootInside} → Answer t bars (BeforeRoot t bars r tops tops') (Ok tt)
      → Answer t bars (Caught t bars c done done' tops' tops'') x → Answer t bars (Started t bars r done' tops tops'') x
  started {r} {done} {done'} {tops} {tops'} {tops''} {c} a d =
      let f = goes a in
      answers (λ (h : Caught t bars c done done' tops' tops''). record {
        still = h.still;
        grown = grown_more f.grown h.grown;
        covers = let x = h.grown.up (thread_of t (previous t r)) in let y = f.covers in omega arith;
        forked = forked_kept h.grown f.forked;
      }) d

-- ---- `seed`

pub seed_start : {s : Table} {bars done tops : List ℕ} → Going s bars done tops → (R : List ℕ) (i : ℕ) → i ≡ length R → Seeded (events s) bars R i done tops
seed_start g R i e = record { still = g.following; covers = λ n l h. absurd (omega arith); forked = λ n l h. absurd (omega arith) }

pub seed_root : {t : Trace} {R bars : List ℕ} → Bars t R bars → (r i : ℕ) → r ≡ get_or R i 0 → i < length R → IsRoot t bars r
seed_root {R = R} b r i e h = let m = get_d_mem R i h in rw e (record { valid = b.valid (get_or R i 0) m; bar = b.bar (get_or R i 0) m })

-- the root behind k others from the last one back
pub seed_turn : (R : List ℕ) (k x : ℕ) → (k < length (reverse R)) × (x ≡ get_or (reverse R) k x) → (k < length R) × (x ≡ get_or R (length R - (k + 1)) 0)
seed_turn R k x h =
    let l : k < length R = omega (arith, h.0, length-reverse R) in
    let i : length R - 1 - k ≡ length R - (k + 1) = omega arith in
    (l, h.1 ∙ get_or-reverse R k x l ∙ ap (λ (j : ℕ). get_or R j x) i ∙ get_or_default_zero R (length R - (k + 1)) x (omega arith))

module _ {t : Trace} {bars R : List ℕ} {i : ℕ} {done tops : List ℕ} (p : Seeded t bars R i done tops) {j : ℕ} (u : i ≡ j + 1) where
  pub seed_more : {r : ℕ} → r ≡ get_or R j 0 → {done' tops' : List ℕ} → Answer t bars (Started t bars r done' tops tops') (Ok tt) → Seeded t bars R j done' tops'
  seed_more {r} e {tops' = tops'} a =
      let f = goes a in
      record {
        still = f.still;
        covers = λ n l h.
            by_cases (eqb n j)
            (λ q. let z = eqb-true n j q in rw (z, ← e) f.covers)
            (λ q.
            let ne = eqb-false n j q in
            let x = p.covers n (omega arith) h in
            let y = f.grown.up (thread_of t (previous t (get_or R n 0))) in omega arith);
        forked = λ n l h.
            by_cases (eqb n j)
            (λ q. let z = eqb-true n j q in rw (z, ← e) f.forked)
            (λ q. let ne = eqb-false n j q in forked_kept f.grown (p.forked n (omega arith) h));
      }

pub seed_end : {t : Trace} {bars R : List ℕ} {i : ℕ} {done tops : List ℕ} → Seeded t bars R i done tops → i ≤ 0 → Answer t bars (Seeded t bars R 0 done tops) (Ok tt)
seed_end p h = going (record { still = p.still; covers = λ n l u. p.covers n (omega arith) u; forked = λ n l u. p.forked n (omega arith) u })
