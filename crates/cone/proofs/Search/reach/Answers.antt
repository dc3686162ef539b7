use Rattle.std.proofs.Common.{rules}
use Rattle.cone.proofs.RaiseLaws.{stops, goes}
use Rattle.cone.proofs.OutsideLaws.{outside_start, outside_less, outside_more, told_out}
use Rattle.cone.proofs.Search.reach.Goals as goal

pub seed-requires : goal.seed-requires
seed-requires c = search (outside_start, rules)

pub returns-in_err-seed : goal.returns-in_err-seed
returns-in_err-seed c = search (stops, rules)

pub loop-done-init : goal.loop-done-init
loop-done-init c = goes c.in_ok-seed.ensures

pub returns-in_err-round : goal.returns-in_err-round
returns-in_err-round c = search (stops, rules)

pub loop-done-smaller : goal.loop-done-smaller
loop-done-smaller c = outside_less c.loop-done.invariant c.in_ok-round.ensures c.behind.ensures c.loop-done-test.true

pub loop-done-preserved : goal.loop-done-preserved
loop-done-preserved c = outside_more c.loop-done.invariant c.in_ok-round.ensures

pub returns : goal.returns
returns c = search (told_out, rules)
