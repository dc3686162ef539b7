-- The roots, and the bars that they are.
use Prim.Native.Nat.{ℕ, ◌+◌, ◌≤◌, ◌<◌}
use native.Mathlib.Omega.{arith}
use mathlib.Core.Path.{◌≡◌, sym, ◌∙◌, ap}
use mathlib.Core.Logic.{◌≢◌}
use mathlib.Core.Bool.{false}
use mathlib.Core.List.{List}
use lib.ListN.{length, get_or, set, replicate, length-set, length-replicate, get_or-replicate}
use lib.Seq.{get_or-set_same, get_or-set_other}
use lib.Dec.{eqb}
use borrow.Author.Tests.{eqb-true, eqb-false, not-false}
use Rattle.model.specs.Trace.{Trace, Valid, thread_of}
use Rattle.model.specs.Lists.{◌∈◌}
use Rattle.model.specs.Good.{max_thread}
use Rattle.model.proofs.Tests.{by_cases}
use Rattle.model.proofs.Lists.{get_d_mem, mem_place}
use Rattle.model.proofs.Threads.{apart_same}
use Rattle.table.specs.declared.judged.Table.{Table}
use Rattle.table.specs.Judged.{events}
use Rattle.cone.specs.Tops.{Rooted}
use Rattle.cone.specs.Following.{no_root, has_root, Bars}

pub root_valid : {s : Table} {R : List ℕ} → Rooted s R → (i : ℕ) → i < length R → (r : ℕ) → r ≡ get_or R i 0 → Valid (events s) r
root_valid {s} {R} g i h r e = rw e (g.apart.valid (get_or R i 0) (get_d_mem R i h))

-- ---- `set_bars`

-- the bars of the first i roots
pub record Barring (t : Trace) (R : List ℕ) (i : ℕ) (bars : List ℕ) : Type 0 where
  pub long : max_thread < length bars
  pub root : (c : ℕ) → c ≤ max_thread → get_or bars c 0 ≢ no_root → (get_or bars c 0 ∈ R) × (thread_of t (get_or bars c 0) ≡ c)
  pub bar : (n : ℕ) → n < i → get_or bars (thread_of t (get_or R n 0)) 0 ≡ get_or R n 0

pub bars_start : (t : Trace) (R bars : List ℕ) → bars ≡ replicate (max_thread + 1) no_root → Barring t R 0 bars
bars_start t R bars e = record {
  long = let z = ap length e in omega (arith, length-replicate (max_thread + 1) no_root);
  root = λ c l ne. absurd (ne (ap (λ (x : List ℕ). get_or x c 0) e ∙ get_or-replicate (max_thread + 1) c no_root 0 (omega arith)));
  bar = λ n l. absurd (omega arith);
}

pub bars_more : {s : Table} {R : List ℕ} → Rooted s R → {i : ℕ} {bars : List ℕ} → Barring (events s) R i bars → i < length R
    → (r : ℕ) → r ≡ get_or R i 0 → (c : ℕ) → c ≡ thread_of (events s) r → c ≤ max_thread → Barring (events s) R (i + 1) (set bars c (get_or R i 0))
bars_more {s} {R} g {i} {bars} b h r er c ec lc =
    let size = b.long in
    let t = events s in
    let e : c ≡ thread_of t (get_or R i 0) = ec ∙ ap (thread_of t) er in
    let m : get_or R i 0 ∈ R = get_d_mem R i h in
    let set_here : get_or (set bars c (get_or R i 0)) c 0 ≡ get_or R i 0 = get_or-set_same bars c (get_or R i 0) 0 (omega arith) in
    record {
      long = rw (length-set bars c (get_or R i 0)) size;
      root = λ d l ne.
          by_cases (eqb d c)
          (λ q. let z = eqb-true d c q in rw (z, set_here) (m, sym e))
          (λ q. let z = get_or-set_other bars c d (get_or R i 0) 0 (eqb-false d c q) in rw z (b.root d l (rw z at ne)));
      bar = λ n l.
          by_cases (eqb (thread_of t (get_or R n 0)) c)
          (λ q.
          let z : thread_of t (get_or R n 0) ≡ c = eqb-true _ _ q in
          let same : get_or R n 0 ≡ get_or R i 0 = apart_same t R g.apart.threads (get_or R n 0) (get_or R i 0) (get_d_mem R n (omega arith)) m (z ∙ e) in
          ap (λ (d : ℕ). get_or (set bars c (get_or R i 0)) d 0) z ∙ set_here ∙ sym same)
          (λ q.
          let ne = eqb-false _ _ q in
          let other : n ≢ i = λ z. ne (ap (λ (j : ℕ). thread_of t (get_or R j 0)) z ∙ sym e) in
          get_or-set_other bars c (thread_of t (get_or R n 0)) (get_or R i 0) 0 ne ∙ b.bar n (omega arith));
    }

pub bars_end : {s : Table} {R : List ℕ} → Rooted s R → {i : ℕ} {bars : List ℕ} → Barring (events s) R i bars → length R ≤ i → Bars (events s) R bars
bars_end {s} {R} g b h = record {
  barred = record { valid = λ c l ne. g.apart.valid _ (b.root c l ne).0; thread = λ c l ne. (b.root c l ne).1 };
  valid = g.apart.valid;
  root = λ c l ne. (b.root c l ne).0;
  bar = λ r m. let x = mem_place m in let z = x.1 in rw x.2 at (b.bar x.0 (omega arith));
}

-- ---- `has_root`

pub no_root_lem : (bars : List ℕ) (c : ℕ) → has_root bars c ≡ false → get_or bars c 0 ≡ no_root
unfolding has_root
no_root_lem bars c e = eqb-true _ _ (not-false _ e)

pub root_no : (bars : List ℕ) (c : ℕ) → (get_or bars c 0 ≢ no_root → ⊥) → has_root bars c ≡ false
unfolding has_root
root_no bars c f = by_cases (eqb (get_or bars c 0) no_root) (λ e. rw e) (λ e. absurd (f (eqb-false _ _ e)))
