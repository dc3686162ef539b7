-- The ways through a thread that is followed.
use Prim.Native.Nat.{ℕ, ◌≤◌, ◌<◌}
use native.Mathlib.Omega.{arith}
use mathlib.Core.Path.{◌≡◌, refl, sym, ◌∙◌, ap}
use mathlib.Core.Logic.{◌≢◌}
use mathlib.Core.Bool.{Bool}
use mathlib.Core.List.{List}
use lib.ListN.{length, get_or, set, length-set}
use lib.Seq.{get_or-set_same, get_or-set_other}
use lib.Dec.{eqb, leb}
use borrow.Author.Tests.{eqb-true, eqb-false, leb-true, leb-false}
use Rattle.std.specs.Prelude.{Result, Ok}
use Rattle.model.specs.Trace.{Trace, Valid, thread_of}
use Rattle.model.specs.Good.{max_thread}
use Rattle.model.proofs.Tests.{by_cases}
use Rattle.table.specs.Links.{previous, fork_of}
use Rattle.table.specs.declared.judged.Table.{Table}
use Rattle.table.specs.Judged.{events}
use Rattle.table.proofs.LinkFacts.{previous_less, previous_earlier, previous_last, fork-same}
use Rattle.cone.specs.declared.RootInside.{RootInside}
use Rattle.cone.specs.Following.{has_root, Within, Coming, Raising, Answer, going, Raised, BringsIn, Follows, Going, Caught}
use Rattle.cone.proofs.RaiseLaws.{goes, answers, within_earlier, grown_none, grown_more, grown_set}
use Rattle.cone.proofs.BringLaws.{brought_kept, forked_kept, bring_forked}

-- ---- `follow`

-- the thread of event n is followed from it back to event k, which is next
pub record Back (t : Trace) (bars : List ℕ) (n k : ℕ) (tops tops' : List ℕ) : Type 0 where
  pub follows : Follows t bars n k tops tops'
  pub coming : Coming t bars k
  pub thread : k ≢ 0 → thread_of t k ≡ thread_of t n

module _ {s : Table} {bars tops : List ℕ} (g : Raising s bars tops) where
  abbrev t : Trace
  t = events s

  pub follow_start : {n : ℕ} → Within (events s) bars n → Back (events s) bars n n tops tops
  follow_start w = record {
    follows = record { sound = g.sound; grown = grown_none tops; followed = λ j v e l h. absurd (omega arith) };
    coming = record { within = λ ne. w };
    thread = λ ne. refl;
  }

  module _ {n k : ℕ} {tops' : List ℕ} (b : Back (events s) bars n k tops tops') where
    pub follow_raising : Raising s bars tops'
    follow_raising = record { barred = g.barred; sound = b.follows.sound }

    pub follow_end : (m : ℕ) → k ≤ m → Answer (events s) bars (Follows (events s) bars n m tops tops') (Ok tt)
    follow_end m h = going (record { sound = b.follows.sound; grown = b.follows.grown; followed = λ j v e l u. b.follows.followed j v e (omega arith) u })

    module _ (m : ℕ) (h : m < k) where
      pub follow_within : Within (events s) bars k
      follow_within = b.coming.within (omega arith)

      pub follow_exempt : (x : Bool) → x ≡ has_root bars (thread_of (events s) n) → x ≡ has_root bars (thread_of (events s) k)
      follow_exempt x e = e ∙ ap (has_root bars) (sym (b.thread (omega arith)))

      pub follow_valid : Valid (events s) k
      follow_valid = follow_within.valid

      module _ {p : ℕ} (e : p ≡ previous (events s) k) where
        pub follow_less : p < k
        follow_less = let z = previous_less t k (omega arith) in omega arith

        pub follow_more : {tops'' : List ℕ} → Answer (events s) bars (BringsIn (events s) bars k tops' tops'') (Ok tt) → Back (events s) bars n p tops tops''
        follow_more a =
            let f = goes a in
            record {
              follows = record {
                sound = f.sound;
                grown = grown_more b.follows.grown f.grown;
                followed = λ j v q l u.
                    by_cases (leb j k)
                    (λ d.
                    let le = leb-true j k d in
                    by_cases (eqb j k)
                    (λ z. let jk = eqb-true j k z in rw jk f.brought)
                    (λ z.
                    let ne = eqb-false j k z in
                    let y = previous_last t j k (record { first = v.positive; less = omega arith; thread = q ∙ sym (b.thread (omega arith)) }) in absurd (omega arith)))
                    (λ d. brought_kept f.grown (b.follows.followed j v q (leb-false j k d) u));
              };
              coming = record { within = λ ne. rw e (within_earlier follow_within (previous_earlier t k (rw e at ne))) };
              thread = λ ne. rw e ((previous_earlier t k (rw e at ne)).thread ∙ b.thread (omega arith));
            }

-- ---- `catch_up`

module _ {s : Table} {bars done tops : List ℕ} (g : Going s bars done tops) (c : ℕ) where
  pub caught_not : (n m : ℕ) → n ≡ get_or tops c 0 → m ≡ get_or done c 0 → n ≤ m → Answer (events s) bars (Caught (events s) bars c done done tops tops) (Ok tt)
  caught_not n m en em h = going (record { still = g.following; grown = grown_none tops; further = grown_none done; reaches = omega arith })

  pub caught_raising : Raising s bars tops
  caught_raising = record { barred = g.barred; sound = g.following.sound }

  pub caught_within : (n m : ℕ) → n ≡ get_or tops c 0 → m < n → Within (events s) bars n
  caught_within n m e h = rw e (g.following.sound.within c (omega arith))

  pub caught_valid : (n m : ℕ) → n ≡ get_or tops c 0 → m < n → Valid (events s) n
  caught_valid n m e h = (caught_within n m e h).valid

  pub caught_forked : (n m : ℕ) → n ≡ get_or tops c 0 → m < n → (o : ℕ) → o ≡ fork_of (events s) n → Coming (events s) bars o
  caught_forked n m e h o eo = bring_forked s (caught_within n m e h) o eo

  pub caught : (n m : ℕ) → n ≡ get_or tops c 0 → m ≡ get_or done c 0 → m < n → c ≤ max_thread → {o : ℕ} → o ≡ fork_of (events s) n → {tops₁ : List ℕ}
      → Answer (events s) bars (Raised (events s) bars o tops tops₁) (Ok tt) → {tops' : List ℕ} {x : Result (Unit {0}) RootInside}
      → Answer (events s) bars (Follows (events s) bars n m tops₁ tops') x → Answer (events s) bars (Caught (events s) bars c done (set done c (get_or tops c 0)) tops tops') x
  caught n m en em h l {o} eo {tops₁} r a =
      let t = events s in
      let size = g.following.long in
      let inside : c < length done = omega arith in
      let here = get_or-set_same done c (get_or tops c 0) 0 inside in
      let k = goes r in
      let vn = caught_valid n m en h in
      let tn : thread_of t n ≡ c = rw (← en) at (g.following.sound.thread c (omega arith)) in
      answers (λ (f : Follows t bars n m tops₁ _). record {
        still = record {
          long = rw (length-set done c (get_or tops c 0)) size;
          sound = f.sound;
          followed = λ j v q.
              by_cases (eqb (thread_of t j) c)
              (λ z.
              let ec : thread_of t j ≡ c = eqb-true _ _ z in
              let top : j ≤ get_or tops c 0 = rw (ec, here) at q in
              by_cases (leb j m)
              (λ d. let low = leb-true j m d in brought_kept (grown_more k.grown f.grown) (g.following.followed j v (rw ec (omega arith))))
              (λ d.
              let high = leb-false j m d in
              f.followed j v (ec ∙ sym tn) high (omega arith)))
              (λ z.
              let other = get_or-set_other done c (thread_of t j) (get_or tops c 0) 0 (eqb-false _ _ z) in
              brought_kept (grown_more k.grown f.grown) (g.following.followed j v (rw other at q)));
          forked = λ j v q.
              by_cases (eqb (thread_of t j) c)
              (λ z.
              let e = fork-same t s.links.good.well_formed j n v vn (eqb-true _ _ z ∙ sym tn) in
              record { covers = rw (e, ← eo) (let x = f.grown.up (thread_of t o) in let y = k.covers in omega arith) })
              (λ z.
              let other = get_or-set_other done c (thread_of t j) (get_or tops c 0) 0 (eqb-false _ _ z) in
              forked_kept (grown_more k.grown f.grown) (g.following.forked j v (rw other at q)));
        };
        grown = grown_more k.grown f.grown;
        further = grown_set done c (get_or tops c 0) inside (omega arith);
        reaches = rw here (omega arith);
      }) a
