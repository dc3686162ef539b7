-- Where the interval of an event of Q begins, and its rule: what its slot is reached up to is needed by every solution, and is all that the rule asks.
use Prim.Native.Nat.{ℕ, ◌≤◌}
use native.Mathlib.Omega.{arith}
use mathlib.Core.Path.{◌≡◌, sym, ap, ◌∙◌}
use mathlib.Core.Logic.{◌≢◌}
use mathlib.Core.List.{List}
use lib.Dec.{ltb}
use borrow.Author.Tests.{ne_eqb, ltb-true, ltb-false}
use Rattle.std.specs.Prelude.{Some, None}
use Rattle.model.specs.Trace.{Trace, Valid, thread_of}
use Rattle.model.proofs.Tests.{by_cases}
use Rattle.model.proofs.Lists.{get_d_mem, mem_place}
use Rattle.table.specs.Links.{began}
use Rattle.table.proofs.BeganFacts.{began_valid}
use Rattle.stairs.specs.Stairs.{at, slot_of, InOthers, Rule}
use Rattle.stairs.specs.Passes.{Upto, Reached, Begun, nowhere, outside, asked}
use Rattle.stairs.proofs.PlaceLaws.{equal_or_not}

-- ---- where an interval begins

module _ (t : Trace) (m k o : ℕ) (e : o ≡ began t k) where
  pub begun_valid : Valid t k → o ≢ 0 → Valid t o
  begun_valid v n = rw e (began_valid t k v (λ z. n (e ∙ z)))

  pub begun_none : o ≡ 0 → Begun t m k None
  begun_none z = nowhere (λ i. i.begins (sym e ∙ z))

  module _ (c : ℕ) (ec : c ≡ thread_of t o) where
    pub begun_moved : c ≡ m → Begun t m k None
    begun_moved f = nowhere (λ i. i.thread (sym (ap (thread_of t) e) ∙ sym ec ∙ f))

    pub begun_outside : o ≢ 0 → c ≢ m → Begun t m k (Some o)
    begun_outside n f = rw e (outside (record { begins = λ z. n (e ∙ z); thread = λ q. f (ec ∙ ap (thread_of t) e ∙ q) }))

pub asked-some : (t : Trace) (reach : List ℕ) (o s : ℕ) → o ≢ 0 → s ≡ slot_of t o → at reach s ≡ asked t reach o
unfolding asked
asked-some t reach o s n e = rw (ne_eqb o 0 n, e)

-- ---- the rule of event k

module _ {t : Trace} {P ends : List ℕ} {i n : ℕ} {reach : List ℕ} (m k : ℕ) (g : ℕ → ℕ) where
  -- no staircase that keeps the rule is below what is reached
  pub raise_below : Upto t P ends i n reach → InOthers t m k → Rule t m P ends g k → n ≤ g k → at reach (slot_of t (began t k)) ≤ g (began t k)
  raise_below u o r b =
      u.least (slot_of t (began t k)) (g (began t k)) (λ x c e.
      let f = u.few in
      let a = u.under x c in
      equal_or_not (at ends (at P x)) 0 (λ z. omega arith) (λ z. r o (at P x) (get_d_mem P x (omega arith)) (omega arith) e (omega arith)))

  -- and one that is not keeps it
  pub rest_rule : Reached t P ends i n reach → g k ≤ n → at reach (slot_of t (began t k)) ≤ g (began t k) → Rule t m P ends g k
  rest_rule r b low o v v-in p e d =
      let x = mem_place v-in in
      let f = x.2 in
      by_cases (ltb x.0 i)
      (λ y. let a = rw f at (r.upto.above x.0 (ltb-true _ _ y)) in let s = ap (at reach) e in omega arith)
      (λ y. let a = r.over x.0 (ltb-false _ _ y) x.1 in absurd (omega arith))
