-- The ways through an event that brings in its own.
use Prim.Native.Nat.{ℕ}
use native.Mathlib.Omega.{arith}
use mathlib.Core.Path.{◌≡◌, sym, ◌∙◌, ap}
use mathlib.Core.Logic.{◌≢◌, inr, ⊎_elim}
use mathlib.Core.Bool.{Bool, true, false}
use mathlib.Core.List.{List}
use lib.ListN.{get_or}
use lib.Dec.{eqb}
use borrow.Author.Tests.{eqb-true, eqb-false}
use Rattle.std.specs.Prelude.{Result, Ok}
use Rattle.model.specs.Trace.{Trace, thread_of}
use Rattle.model.specs.Cone.{Outside, brought, observes, closes}
use Rattle.model.proofs.Tests.{by_cases, clash}
use Rattle.table.specs.Links.{waits_for, release_of, fork_of}
use Rattle.table.specs.declared.judged.Table.{Table}
use Rattle.table.specs.Judged.{events}
use Rattle.table.proofs.LinkFacts.{waits_less, waits_cases, fork_awaited, release_acquires, release-after}
use Rattle.cone.specs.declared.RootInside.{RootInside}
use Rattle.cone.specs.Following.{no_root, has_root, Bars, Within, Coming, Grown, Answer, going, Raised, Forked, Brought, BringsIn}
use Rattle.cone.proofs.BarLaws.{no_root_lem}
use Rattle.cone.proofs.RaiseLaws.{goes, answers, within_before, grown_more}

-- what has come in stays in
pub brought_kept : {t : Trace} {bars tops tops' : List ℕ} → Grown tops tops' → {k : ℕ} → Brought t bars tops k → Brought t bars tops' k
brought_kept {t} {bars} {tops} {tops'} g {k} b = record {
  seen = let x = g.up (thread_of t (waits_for t k)) in let y = b.seen in omega arith;
  closing = λ e. let x = g.up (thread_of t (release_of t k)) in let y = b.closing e in omega arith;
}

pub forked_kept : {t : Trace} {tops tops' : List ℕ} → Grown tops tops' → {k : ℕ} → Forked t tops k → Forked t tops' k
forked_kept {t} g {k} f = record { covers = let x = g.up (thread_of t (fork_of t k)) in let y = f.covers in omega arith }

module _ {t : Trace} {bars : List ℕ} {k : ℕ} {x : Bool} (ex : x ≡ has_root bars (thread_of t k)) where
  module _ {o : ℕ} (eo : o ≡ waits_for t k) {tops tops' : List ℕ} (a : Answer t bars (Raised t bars o tops tops') (Ok tt)) where
    -- by a root's thread
    pub bring_exempt : x ≡ true → Answer t bars (BringsIn t bars k tops tops') (Ok tt)
    bring_exempt e =
        let f = goes a in
        going (record {
          sound = f.sound;
          grown = f.grown;
          brought = record { seen = rw (← eo) f.covers; closing = λ q. clash (sym ex ∙ e) q };
        })

    pub bring_both : {r : ℕ} → r ≡ release_of t k → {tops'' : List ℕ} {y : Result (Unit {0}) RootInside} → Answer t bars (Raised t bars r tops' tops'') y → Answer t bars (BringsIn t bars k tops tops'') y
    bring_both {r} er {tops''} d =
        let f = goes a in
        answers (λ (h : Raised t bars r tops' tops''). record {
          sound = h.sound;
          grown = grown_more f.grown h.grown;
          brought = record {
            seen = rw (← eo) (let z = h.grown.up (thread_of t o) in let y = f.covers in omega arith);
            closing = λ q. rw (← er) h.covers;
          };
        }) d

module _ (s : Table) {bars : List ℕ} where
  -- a thread with no bar is none of the roots'
  bar_outside : (k : ℕ) → get_or bars (thread_of (events s) k) 0 ≡ no_root → (R : List ℕ) → Bars (events s) R bars → Outside (events s) R k
  bar_outside k e R b r m q =
      let z : r ≡ no_root = sym (b.bar r m) ∙ ap (λ (c : ℕ). get_or bars c 0) q ∙ e in
      let v = (b.valid r m).bounded in
      let h = s.links.good.size in
      let u : ⊥ = omega arith in u

  module _ {k : ℕ} (w : Within (events s) bars k) where
    abbrev t : Trace
    t = events s

    pub bring_observed : (o : ℕ) → o ≡ waits_for (events s) k → Coming (events s) bars o
    bring_observed o e = record {
      within = λ q.
          let ne : waits_for t k ≢ 0 = rw e at q in
          rw e
          (⊎_elim
          (λ x.
          let b = w.valid.bounded in
          let l = waits_less t s.links.good.well_formed k w.valid in
          record { valid = record { positive = omega arith; bounded = omega arith }; inside = λ R b. brought (w.inside R b) (observes x.0 x.1 ne) })
          (λ x. within_before w (inr x.1))
          (waits_cases t k ne));
    }

    -- the fork of its thread
    pub bring_forked : (o : ℕ) → o ≡ fork_of (events s) k → Coming (events s) bars o
    bring_forked o e = record { within = λ q. rw e (within_before w (inr (fork_awaited t k (rw e at q)))) }

  pub bring_released : (r k : ℕ) → r ≡ release_of (events s) k → Within (events s) bars k → (x : Bool) → x ≡ has_root bars (thread_of (events s) k) → x ≡ false → Coming (events s) bars r
  bring_released r k er w x ex e = record {
    within = λ q.
        let t = events s in
        let ne : release_of t k ≢ 0 = rw er at q in
        let none : get_or bars (thread_of t k) 0 ≡ no_root = no_root_lem bars (thread_of t k) (sym ex ∙ e) in
        rw er
        (by_cases (eqb (release_of t k) k)
        (λ d. let z = eqb-true (release_of t k) k d in rw z w)
        (λ d.
        let a = release_acquires t k ne (eqb-false _ _ d) in
        let p = w.valid.positive in
        let f = release-after t k p w.valid.bounded ne in
        let low = f.0 in
        record {
          valid = record { positive = omega arith; bounded = f.1 };
          inside = λ R b. brought (w.inside R b) (closes a.0 (bar_outside k none R b) a.1 ne);
        }));
  }
