use Rattle.std.proofs.Common.{rules}
use Rattle.showing.proofs.PutLaws.{events-first, events_on}
use Rattle.showing.proofs.put_events.Goals as goal

pub loop-k-init : goal.loop-k-init
loop-k-init c = search (events-first, rules)

pub loop-k-preserved : goal.loop-k-preserved
loop-k-preserved c = search (events_on, rules)
