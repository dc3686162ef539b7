-- The answers, and the ways through a top that rises.
use Prim.Native.Nat.{ℕ, ◌≤◌, ◌<◌}
use native.Mathlib.Omega.{arith}
use mathlib.Core.Path.{◌≡◌, sym, ◌∙◌}
use mathlib.Core.Logic.{◌≢◌, inl}
use mathlib.Core.List.{List}
use lib.ListN.{length, get_or, set, length-set}
use lib.Seq.{get_or-set_same, get_or-set_other}
use lib.Dec.{eqb}
use mir.Syntax.{w16}
use mir.Val.{Fits}
use borrow.Author.Tests.{eqb-true, eqb-false}
use Rattle.std.specs.Prelude.{Result, Ok, Err}
use Rattle.model.specs.Trace.{Trace, Valid, thread_of}
use Rattle.model.specs.Good.{max_thread}
use Rattle.model.specs.Cone.{Earlier, Precedes, brought, precedes}
use Rattle.model.proofs.Tests.{by_cases}
use Rattle.model.proofs.ConeEvents.{precedes_valid}
use Rattle.table.specs.declared.judged.Table.{Table}
use Rattle.table.specs.Judged.{events}
use Rattle.cone.specs.declared.RootInside.{RootInside}
use Rattle.cone.specs.Following.{no_root, Within, Coming, Raising, Grown, Answer, reached, going, Raised}

-- ---- the answers

-- a root is in the cone, whatever else was asked for
pub stops : {t : Trace} {bars : List ℕ} {G H : Type 0} {e d : RootInside} → Answer t bars G (Err e) → Answer t bars H (Err d)
stops (reached l ne w) = reached l ne w

pub goes : {t : Trace} {bars : List ℕ} {G : Type 0} {u : Unit {0}} → Answer t bars G (Ok u) → G
goes (going g) = g

pub answers : {t : Trace} {bars : List ℕ} {G H : Type 0} {r : Result (Unit {0}) RootInside} → (G → H) → Answer t bars G r → Answer t bars H r
answers f (reached l ne w) = reached l ne w
answers f (going g) = going (f g)

-- ---- what is in the cone

pub within_before : {t : Trace} {bars : List ℕ} {j k : ℕ} → Within t bars k → Precedes t j k → Within t bars j
within_before {t} {bars} {j} {k} w e = record { valid = precedes_valid t j k w.valid e; inside = λ R b. brought (w.inside R b) (precedes e) }

pub within_earlier : {t : Trace} {bars : List ℕ} {j k : ℕ} → Within t bars k → Earlier t j k → Within t bars j
within_earlier w e = within_before w (inl e)

-- so are the events of a thread up to one that is
pub within_upto : {t : Trace} {bars : List ℕ} {k : ℕ} → Within t bars k → (j : ℕ) → 1 ≤ j → j ≤ k → thread_of t j ≡ thread_of t k → Within t bars j
within_upto {t} {bars} {k} w j p l e =
    by_cases (eqb j k)
    (λ q. rw (eqb-true j k q) w)
    (λ q. let ne = eqb-false j k q in within_earlier w (record { first = p; less = omega arith; thread = e }))

-- ---- the tops grow

pub grown_none : (l : List ℕ) → Grown l l
grown_none l = record { up = λ c. omega arith }

pub grown_more : {l l' l'' : List ℕ} → Grown l l' → Grown l' l'' → Grown l l''
grown_more g h = record { up = λ c. let x = g.up c in let y = h.up c in omega arith }

pub grown_set : (l : List ℕ) (c k : ℕ) → c < length l → get_or l c 0 ≤ k → Grown l (set l c k)
grown_set l c k h le = record {
  up = λ d.
      by_cases (eqb d c)
      (λ q. let e = eqb-true d c q in rw (e, get_or-set_same l c k 0 h) le)
      (λ q. rw (get_or-set_other l c d k 0 (eqb-false d c q)) (omega arith));
}

-- ---- `raise`

module _ {s : Table} {bars tops : List ℕ} (g : Raising s bars tops) {k : ℕ} (w : Coming (events s) bars k) where
  abbrev t : Trace
  t = events s

  -- no event
  pub raise_none : k < 1 → Answer (events s) bars (Raised (events s) bars k tops tops) (Ok tt)
  raise_none h = let z : k ≡ 0 = omega arith in going (record { sound = g.sound; grown = grown_none tops; covers = rw z (omega arith) })

  module _ (h : 1 ≤ k) where
    here : Within t bars k
    here = w.within (omega arith)

    pub raise_valid : Valid (events s) k
    raise_valid = here.valid

    module _ (c : ℕ) (ec : c ≡ thread_of t k) (lc : c ≤ max_thread) where
      -- already up to the top
      pub raise_under : (x : ℕ) → x ≡ get_or tops c 0 → k ≤ x → Answer (events s) bars (Raised (events s) bars k tops tops) (Ok tt)
      raise_under x ex le = going (record { sound = g.sound; grown = grown_none tops; covers = rw (← ec, ← ex) le })

      -- the root of the thread is reached
      pub raise_reached : (y : ℕ) → y ≡ get_or bars c 0 → y ≤ k → {e : RootInside} → Answer (events s) bars (Raised (events s) bars k tops tops) (Err e)
      raise_reached y ey le =
          let size = s.links.good.size in
          let v = here.valid.bounded in
          let ne : get_or bars c 0 ≢ no_root = λ z. let u : ⊥ = omega arith in u in
          let b = (g.barred.valid c lc ne).positive in
          reached lc ne (within_upto here (get_or bars c 0) b (omega arith) (g.barred.thread c lc ne ∙ ec))

      pub raise_up : get_or tops c 0 < k → k < get_or bars c 0 → Answer (events s) bars (Raised (events s) bars k tops (set tops c k)) (Ok tt)
      raise_up up low =
          let inside : c < length tops = let z = g.sound.long in omega arith in
          let top = get_or-set_same tops c k 0 inside in
          let same : (d : ℕ) → d ≢ c → get_or (set tops c k) d 0 ≡ get_or tops d 0 = λ d ne. get_or-set_other tops c d k 0 ne in
          going (record {
            sound = record {
              long = rw (length-set tops c k) g.sound.long;
              within = λ d ne.
                  by_cases (eqb d c)
                  (λ q. let e = eqb-true d c q in rw (e, top) here)
                  (λ q. let e = same d (eqb-false d c q) in rw e (g.sound.within d (rw e at ne)));
              thread = λ d ne.
                  by_cases (eqb d c)
                  (λ q. let e = eqb-true d c q in rw (e, top) (sym ec))
                  (λ q. let e = same d (eqb-false d c q) in rw e (g.sound.thread d (rw e at ne)));
              below = λ d ld.
                  by_cases (eqb d c)
                  (λ q. let e = eqb-true d c q in rw (e, top) (omega arith))
                  (λ q. let e = same d (eqb-false d c q) in rw e (g.sound.below d ld));
            };
            grown = grown_set tops c k inside (omega arith);
            covers = rw (← ec, top) (omega arith);
          })

    pub raise_fits : Fits w16 k
    raise_fits = let a = here.valid.bounded in let b = s.links.good.size in record { fits = omega arith }
