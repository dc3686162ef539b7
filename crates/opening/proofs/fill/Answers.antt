use Rattle.std.proofs.Common.{rules}
use native.Mathlib.Omega.{arith}
use Rattle.opening.proofs.FillLaws.{columns-own, columns_tails, fill_end}
use Rattle.opening.proofs.KnowsExact.{knows_first}
use Rattle.opening.proofs.KnowsLaws.{events_new, depths_new, taken_new, forks_new}
use Rattle.opening.proofs.fill.Goals as goal

pub add-requires : goal.add-requires
add-requires c = search (columns-own, events_new, rules)

pub add-requires-2 : goal.add-requires-2
add-requires-2 c = let p = c.add.ensures in (columns-own p.0 (omega arith), search knows_first, columns_tails p.0 (omega arith) p.1)

pub add-requires-3 : goal.add-requires-3
add-requires-3 c = search (columns-own, depths_new, rules)

pub add_released-requires : goal.add_released-requires
add_released-requires c = search (columns-own, rules)

pub add-requires-4 : goal.add-requires-4
add-requires-4 c = search (columns-own, taken_new, rules)

pub add-requires-5 : goal.add-requires-5
add-requires-5 c = search (columns-own, forks_new, rules)

pub returns : goal.returns
returns c =
    fill_end c.add-5.ensures.0 c.add-4.ensures.0 c.add_released.ensures c.add-3.ensures.0 c.add-2.ensures.0 c.add.ensures.0 c.add_own-2.ensures
