-- The last of those that must stand before, by one rule or by two.
use Prim.Native.Nat.{ℕ}
use native.Mathlib.Omega.{arith}
use mathlib.Core.Logic.{◌⊎◌, inl, inr, ⊎_elim}
use mathlib.Core.Bool.{cond}
use mathlib.Core.List.{List}
use lib.Dec.{ltb}
use borrow.Author.Tests.{ltb-true, ltb-false}
use Rattle.model.specs.Lists.{◌∈◌}
use Rattle.model.proofs.Tests.{by_cases}
use Rattle.bounds.specs.Bounds.{Last}

pub last_map : {P : List ℕ} {F G : ℕ → Type 0} {x : ℕ} → ((p : ℕ) → p ∈ P → F p → G p) → ((p : ℕ) → p ∈ P → G p → F p) → Last P F x → Last P G x
last_map f g l = record { above = λ p n b. l.above p n (g p n b); from = ⊎_elim inl (λ z. inr (z.0, f _ z.0 z.1)) l.from }

pub last_two : {P : List ℕ} {F G : ℕ → Type 0} (x y : ℕ) → Last P F x → Last P G y → Last P (λ p. F p ⊎ G p) (cond (ltb x y) y x)
last_two x y a b =
    by_cases (ltb x y)
    (λ e.
    let lt = ltb-true x y e in
    rw e (record {
      above = λ p n f. ⊎_elim (λ z. let u = a.above p n z in omega arith) (λ z. b.above p n z) f;
      from = ⊎_elim inl (λ z. inr (z.0, inr z.1)) b.from;
    }))
    (λ e.
    let le = ltb-false x y e in
    rw e (record {
      above = λ p n f. ⊎_elim (λ z. a.above p n z) (λ z. let u = b.above p n z in omega arith) f;
      from = ⊎_elim inl (λ z. inr (z.0, inl z.1)) a.from;
    }))
