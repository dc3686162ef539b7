-- Passes one after the other, until one raises nothing.
use Prim.Native.Nat.{ℕ, ◌*◌, ◌-◌, ◌≤◌, ◌<◌}
use native.Mathlib.Omega.{arith}
use mathlib.Core.Path.{◌≡◌, refl, ap, ◌∙◌}
use mathlib.Core.Bool.{Bool, true, false}
use mathlib.Core.List.{List}
use lib.ListN.{length}
use Rattle.table.specs.declared.judged.Table.{Table}
use Rattle.table.specs.Judged.{events}
use Rattle.stairs.specs.Stairs.{at, Ready, Solved}
use Rattle.stairs.specs.Passes.{total, Below, Passed}
use Rattle.stairs.proofs.PlaceLaws.{total_few}

-- between two passes
pub record Solving (s : Table) (m : ℕ) (P Q ends low need : List ℕ) : Type 0 where
  pub ready : Ready s m P Q ends need
  pub same : length need ≡ length low
  pub grows : (k : ℕ) → at low k ≤ at need k
  pub below : Below (events s) m P Q ends low need

pub solving_start : {s : Table} {m : ℕ} {P Q ends need : List ℕ} → Ready s m P Q ends need → Solving s m P Q ends need need
solving_start r = record { ready = r; same = refl; grows = λ k. omega arith; below = λ g z. z.above }

module _ {s : Table} {m : ℕ} {P Q ends low need : List ℕ} (p : Solving s m P Q ends low need) {raised : Bool} {need' : List ℕ}
    (q : Passed (events s) m P Q ends need raised need') where
  -- a solution above the first needs is one above those of this pass
  below_more : Below (events s) m P Q ends low need'
  below_more g z = q.below g (record { climbs = z.climbs; above = p.below g z; apart = z.apart })

  pub solving_rest : raised ≡ false → Solved (events s) m P Q ends low need'
  solving_rest e =
      let z = q.rest e in
      record {
        same = q.same ∙ p.same;
        least = record {
          solution = record { climbs = z.climbs; above = λ k k-in. let a = p.grows k in let b = z.above k k-in in omega arith; apart = z.apart };
          least = below_more;
        };
      }

  pub solving_more : Solving s m P Q ends low need'
  solving_more =
      let r = p.ready in
      let l = q.same in
      let b = r.need_room in
      record {
        ready = record { lists = r.lists; ends_room = r.ends_room; need_room = omega arith };
        same = l ∙ p.same;
        grows = λ k. let a = p.grows k in let c = q.grows k in omega arith;
        below = below_more;
      }

  -- what is left to raise, where no event needs more than 65535
  pub solving_less : raised ≡ true → ((k : ℕ) → at need' k ≤ 65535) → 65535 * length low - total need' < 65535 * length low - total need
  solving_less e small =
      let t = q.more e in
      let f = total_few 65535 need' small in
      let n = q.same ∙ p.same in
      let c : 65535 * length need' ≡ 65535 * length low = ap (λ (x : ℕ). 65535 * x) n in omega arith
