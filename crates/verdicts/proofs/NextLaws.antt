-- The ways through question 4 on a table.
use Prim.Native.Nat.{ℕ}
use mathlib.Core.Path.{◌≡◌, sym, ◌∙◌}
use mathlib.Core.Bool.{Bool, false, not}
use mathlib.Core.Option.{none}
use mathlib.Core.List.{List, ◌++◌}
use lib.ListN.{length, take, drop}
use borrow.Author.Tests.{not-false}
use Rattle.model.specs.Trace.{Trace}
use Rattle.model.proofs.Lists.{front_length}
use Rattle.decision.specs.Decision.{next_race}
use Rattle.limits.specs.Limits.{area_bytes, is_area_size}
use Rattle.verdicts.specs.Next.{next_in}
use Rattle.verdicts.specs.Deciding.{Searchable, Finds}
use Rattle.verdicts.specs.declared.Pair.{Pair}
use Rattle.std.specs.Prelude.{Option as RustOption, Ok}
use Rattle.verdicts.proofs.VerdictLaws.{area_long, whole_area}

pub next_searchable : (area : List ℕ) (d : Bool) → d ≡ is_area_size (length area) → not d ≡ false → Searchable (take area_bytes area)
next_searchable area d ed w = record { long = sym (front_length area_bytes area (area_long area d ed w)) }

pub next-found : (t : Trace) (a b : ℕ) (area : List ℕ) (d : Bool) → d ≡ is_area_size (length area) → not d ≡ false → (part : List ℕ) (r : RustOption Pair)
    → Finds (next_race t a b) (take area_bytes area) part r → (Ok r, part ++ drop area_bytes area) ≡ next_in none t a b area
unfolding next_in
next-found t a b area d ed w part r x = rw (x.says, whole_area area part (area_long area d ed w) x.zero, sym ed ∙ not-false d w)
