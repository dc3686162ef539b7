-- The test of a work area.
use Prim.Native.Nat.{ℕ, ◌≤◌, ◌<◌}
use mathlib.Core.Path.{◌≡◌, refl, sym, ◌∙◌}
use mathlib.Core.Logic.{◌↔◌}
use mathlib.Core.Bool.{true, not}
use lib.Dec.{leb}
use borrow.Author.Tests.{leb-true, leb-false, lt-leb, not-true}
use Rattle.limits.specs.Limits.{area_bytes, is_area_size}

-- the test of a work area
module _ (n : ℕ) where
  pub area_test : leb area_bytes n ≡ is_area_size n
  unfolding is_area_size
  area_test = refl

  pub area_true : is_area_size n ≡ true → area_bytes ≤ n
  area_true e = leb-true area_bytes n (area_test ∙ e)

  pub area_short : (not (is_area_size n) ≡ true) ↔ (n < area_bytes)
  area_short = ((λ e. leb-false area_bytes n (area_test ∙ not-true (is_area_size n) e)), (λ h. rw (sym area_test ∙ lt-leb area_bytes n h)))
