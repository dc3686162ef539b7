-- The work area, and the ways through question 3 on a table.
use Prim.Native.Nat.{ℕ, ◌≤◌}
use mathlib.Core.Path.{◌≡◌, sym, ◌∙◌, ap}
use mathlib.Core.Bool.{Bool, false, not}
use mathlib.Core.Option.{none}
use mathlib.Core.List.{List, ◌++◌}
use lib.ListN.{length, take, drop, replicate}
use borrow.Author.Tests.{not-false, le-ltb}
use Rattle.model.proofs.Lists.{front_length}
use Rattle.decision.specs.Decision.{witness}
use Rattle.limits.specs.Limits.{area_bytes, is_area_size}
use Rattle.table.specs.declared.judged.Table.{Table}
use Rattle.table.specs.Judged.{events}
use Rattle.verdicts.specs.Verdict.{verdict_in, cleared}
use Rattle.verdicts.specs.Deciding.{Askable, Decidable, Decides}
use Rattle.std.specs.Prelude.{Option as RustOption, Ok}
use lib.Seq.{length-take-le}
use Rattle.limits.proofs.LimitLaws.{area_true}

pub area_long : (area : List ℕ) (b : Bool) → b ≡ is_area_size (length area) → not b ≡ false → area_bytes ≤ length area
area_long area b e w = area_true (length area) (sym e ∙ not-false b w)

-- the whole after its front was cleared; over any number of bytes first, since 65,536 zeros are not to be written out
front-zero : (n : ℕ) (area part : List ℕ) → n ≤ length area → part ≡ replicate (length (take n area)) 0 → part ++ drop n area ≡ replicate n 0 ++ drop n area
front-zero n area part h z = ap (λ (l : List ℕ). l ++ drop n area) (z ∙ ap (λ (m : ℕ). replicate m 0) (length-take-le n area h))

pub whole_area : (area part : List ℕ) → area_bytes ≤ length area → part ≡ replicate (length (take area_bytes area)) 0 → part ++ drop area_bytes area ≡ cleared area
unfolding cleared
whole_area area part h z = front-zero area_bytes area part h z

-- ---- the answer

module _ {table : Table} {a b : ℕ} {list : List ℕ} (q : Askable table a b list) (area : List ℕ) (d : Bool) (ed : d ≡ is_area_size (length area)) (w : not d ≡ false) where
  pub pair_decidable : Decidable table a b list (take area_bytes area)
  pair_decidable = record { askable = q; long = sym (front_length area_bytes area (area_long area d ed w)) }

  pub pair_decided : (list' part : List ℕ) (r : RustOption ℕ) → Decides (witness (events table) a b) list list' (take area_bytes area) part r
      → (Ok r, list', part ++ drop area_bytes area) ≡ verdict_in none (events table) a b list area
  unfolding verdict_in
  pair_decided list' part r x =
      rw (x.says, x.wrote, whole_area area part (area_long area d ed w) x.zero, q.conflicting, le-ltb _ _ q.room, sym ed ∙ not-false d w)
