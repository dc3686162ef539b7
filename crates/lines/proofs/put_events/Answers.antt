use Rattle.std.proofs.Common.{arith, rules}
use Rattle.lines.proofs.NumbersLaws.{events-start, events_on, events_over}
use Rattle.lines.proofs.put_events.Goals as goal

pub loop-k-init : goal.loop-k-init
loop-k-init c = search (events-start, rules)

pub loop-k-preserved : goal.loop-k-preserved
loop-k-preserved c = search (events_on, rules)

pub returns : goal.returns
returns c = events_over _ _ c.loop-k.invariant (omega arith)
