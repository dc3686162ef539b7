use Rattle.std.proofs.Common.{arith, rules}
use Rattle.races.proofs.ListLaws.{walking_start, lower_fits, walking_lent, race-found, next_fits, walking_on, no_more}
use Rattle.races.proofs.next_race.Goals as goal

pub loop-x-init : goal.loop-x-init
loop-x-init c = search (walking_start, rules)

pub overflow_cast-lower : goal.overflow_cast-lower
overflow_cast-lower c = search (lower_fits, rules)

pub next_with-requires : goal.next_with-requires
next_with-requires c = search (walking_lent, rules)

pub returns-in-Some : goal.returns-in-Some
returns-in-Some c = search (race-found, rules)

pub overflow_add-after : goal.overflow_add-after
overflow_add-after c = search (next_fits, rules)

pub loop-x-preserved : goal.loop-x-preserved
loop-x-preserved c = search (walking_on, rules)

pub returns : goal.returns
returns c = no_more c.loop-x.invariant c.count-x-end.result c.count-x-end.ensures (omega arith)
