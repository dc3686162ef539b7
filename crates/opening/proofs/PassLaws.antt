-- The passes, forwards and backwards: what the list knows, and what the column has.
use Prim.Native.Nat.{ℕ, suc, ◌+◌, ◌-◌, ◌≤◌, ◌<◌}
use native.Mathlib.Omega.{arith}
use mathlib.Core.Path.{◌≡◌}
use mathlib.Core.List.{List}
use lib.ListN.{length}
use Rattle.model.specs.Trace.{Trace, Valid}
use Rattle.table.specs.Table.{trace, columns, column, with_word}
use Rattle.opening.specs.Filling.{Columns, Turn, Stepped}
use Rattle.opening.proofs.FillLaws.{Passed, passed_start, passed-columns, passed_end, passed_more, columns-trace}

-- ---- a step of a pass over the table

module _ {c : ℕ} {Past : ℕ → Type 0} {s₀ s : List ℕ} (two : 2 ≤ c) (p : Passed (trace s₀) c Past s₀ s) where
  same : trace s ≡ trace s₀
  same = columns-trace (passed-columns p) two

  module _ {Knows : Trace → ℕ → List ℕ → Type 0} {k : ℕ} where
    turn : {list : List ℕ} → Valid (trace s₀) k → Knows (trace s₀) k list → Turn Knows c k s list
    turn v kn = let e = same in record { columns = rw e (passed-columns p); valid = rw e v; knows = rw e kn }

    turn_knows : {next : ℕ} {s' list' : List ℕ} → Stepped Knows c k next s s' list' → Knows (trace s₀) next list'
    turn_knows q = rw same at q.knows

-- ---- forwards

-- those before event k have passed
pub record Forward (t : Trace) (c n k : ℕ) (s₀ s : List ℕ) : Type 0 where
  pub all : n ≡ length t
  pub low : 1 ≤ k
  pub passed : Passed t c (λ j. j < k) s₀ s

from_first : {t : Trace} {c n : ℕ} {s : List ℕ} → Columns t c s → c < columns → n ≡ length t → Forward t c n 1 s s
from_first p l e = record { all = e; low = omega arith; passed = passed_start p l (λ k h v. let z = v.positive in let y : ⊥ = omega arith in y) }

pub forward_start : {t : Trace} {c n : ℕ} {s : List ℕ} → Columns t c s → c < 2 → n ≡ length t → Forward t c n 1 s s
forward_start p l e = from_first p (omega arith) e

module _ {t : Trace} {c n k : ℕ} {s₀ s : List ℕ} (p : Forward t c n k s₀ s) where
  pub forward_end : n + 1 ≤ k → Columns t (suc c) s
  forward_end h = let e = p.all in passed_end p.passed (λ j v. let b = v.bounded in omega arith)

  module _ (h : k < n + 1) where
    forward_valid : Valid t k
    forward_valid = record { positive = p.low; bounded = let e = p.all in omega arith }

    pub forward_more : {s' : List ℕ} {x : ℕ} → s' ≡ with_word s k c x → x ≡ column c t k → Forward t c n (k + 1) s₀ s'
    forward_more e ex = record { all = p.all; low = omega arith; passed = passed_more p.passed forward_valid (λ j l ne. omega arith) e ex }

-- the same in the table alone, with what the list knows
pub record Ahead (Knows : Trace → ℕ → List ℕ → Type 0) (c n k : ℕ) (s₀ list s : List ℕ) : Type 0 where
  pub two : 2 ≤ c
  pub forward : Forward (trace s₀) c n k s₀ s
  pub knows : Knows (trace s₀) k list

module _ {Knows : Trace → ℕ → List ℕ → Type 0} {c n : ℕ} where
  pub ahead_start : {s list : List ℕ} → (2 ≤ c) × (c < columns) → Columns (trace s) c s → n ≡ length (trace s) → Knows (trace s) 1 list → Ahead Knows c n 1 s list s
  ahead_start l p e kn = record { two = l.0; forward = from_first p l.1 e; knows = kn }

  module _ {k : ℕ} {s₀ list s : List ℕ} (p : Ahead Knows c n k s₀ list s) where
    -- the trace is the same on the way
    pub ahead_same : trace s ≡ trace s₀
    ahead_same = same p.two p.forward.passed

    pub ahead_end : n + 1 ≤ k → Columns (trace s₀) (suc c) s
    ahead_end h = forward_end p.forward h

    -- behind the last event
    pub ahead_last : n + 1 ≤ k → k ≤ n + 1 → Knows (trace s₀) (suc (length (trace s₀))) list
    ahead_last h l =
        let e = p.forward.all in
        let z : k ≡ suc (length (trace s₀)) = omega arith in
        rw z at p.knows

    module _ (h : k < n + 1) where
      pub ahead_turn : Turn Knows c k s list
      ahead_turn = turn p.two p.forward.passed (forward_valid p.forward h) p.knows

      pub ahead_more : {s' list' : List ℕ} → Stepped Knows c k (k + 1) s s' list' → Ahead Knows c n (k + 1) s₀ list' s'
      ahead_more q =
          let o = p.forward.passed in
          record { two = p.two; forward = forward_more p.forward h q.set (rw (same p.two o)); knows = turn_knows p.two o q }

-- ---- backwards

-- those from event k on have passed, and the list is that after event k - 1
pub record Behind (Knows : Trace → ℕ → List ℕ → Type 0) (c k : ℕ) (s₀ list s : List ℕ) : Type 0 where
  pub two : 2 ≤ c
  pub high : k ≤ length (trace s₀) + 1
  pub passed : Passed (trace s₀) c (λ j. k ≤ j) s₀ s
  pub knows : Knows (trace s₀) (k - 1) list

module _ {Knows : Trace → ℕ → List ℕ → Type 0} {c : ℕ} where
  pub behind_start : {n : ℕ} {s list : List ℕ} → 2 ≤ c → c < columns → Columns (trace s) c s → n ≡ length (trace s) → Knows (trace s) n list → Behind Knows c (n + 1) s list s
  behind_start {n} two l p e kn =
      let z : n + 1 - 1 ≡ n = omega arith in
      record { two = two; high = omega arith; passed = passed_start p l (λ k h v. let b = v.bounded in let z : ⊥ = omega arith in z); knows = rw z kn }

  module _ {k : ℕ} {s₀ list s : List ℕ} (p : Behind Knows c k s₀ list s) where
    pub behind_end : k ≤ 1 → (d : ℕ) → d ≡ suc c → Columns (trace s₀) d s
    behind_end h d e = rw e (passed_end p.passed (λ j v. let a = v.positive in omega arith))

    module _ (h : 1 < k) where
      behind_valid : Valid (trace s₀) (k - 1)
      behind_valid = let z = p.high in record { positive = omega arith; bounded = omega arith }

      pub behind_turn : Turn Knows c (k - 1) s list
      behind_turn = turn p.two p.passed behind_valid p.knows

      pub behind_more : {s' list' : List ℕ} → Stepped Knows c (k - 1) (k - 1 - 1) s s' list' → Behind Knows c (k - 1) s₀ list' s'
      behind_more q =
          let z = p.high in
          record {
            two = p.two;
            high = omega arith;
            passed = passed_more p.passed behind_valid (λ j l ne. omega arith) q.set (rw (same p.two p.passed));
            knows = turn_knows p.two p.passed q;
          }
