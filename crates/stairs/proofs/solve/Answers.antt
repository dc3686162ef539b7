use Rattle.std.proofs.Common.{rules}
use Rattle.stairs.proofs.SolveLaws.{solving_start, solving_rest, solving_more, solving_less}
use Rattle.stairs.proofs.solve.Goals as goal

pub loop-init : goal.loop-init
loop-init c = search (solving_start, rules)

pub loop-smaller : goal.loop-smaller
loop-smaller c = solving_less c.loop.invariant c.pass.ensures c.loop-test.true (search rules)

pub loop-preserved : goal.loop-preserved
loop-preserved c = search solving_more

pub returns : goal.returns
returns c = search solving_rest
