-- That a table has its links is a fact: there is one proof of it at most.
use Rattle.std.specs.Prelude.{ℕ, suc, ◌≡◌, ◌⊎◌, List}
use Rattle.std.proofs.Common.{arith, ap, sym, ◌∙◌}
use Rattle.std.proofs.Math.Nat.{ℕ_set}
use Rattle.std.proofs.Math.Logic.{inl, inr}
use Rattle.std.proofs.Props.{props}
use Rattle.model.specs.Trace.{Trace, thread_of, object_of}
use Rattle.model.specs.Good.{Free, holder}
use Rattle.table.specs.Table.{Linked}

-- nobody has one number, and a thread another
zero_or_next : (h c : ℕ) → IsProp ((h ≡ 0) ⊎ (h ≡ suc c))
zero_or_next h c (inl a) (inl b) = ap inl (ℕ_set _ _ a b)
zero_or_next h c (inl a) (inr b) = let e : 0 ≡ suc c = sym a ∙ b in absurd (omega arith)
zero_or_next h c (inr a) (inl b) = let e : 0 ≡ suc c = sym b ∙ a in absurd (omega arith)
zero_or_next h c (inr a) (inr b) = ap inr (ℕ_set _ _ a b)

pub Free_prop : (t : Trace) (h : List ℕ) (k : ℕ) → IsProp (Free t h k)
Free_prop t h k = zero_or_next (holder t (object_of t k) h) (thread_of t k)

pub Linked_prop : (s : List ℕ) → IsProp (Linked s)
Linked_prop s = Prim.hlevel (props, Free_prop)
