use Rattle.std.proofs.Common.{rules}
use Rattle.bounds.proofs.FirstLaws.{firsts_start, firsts_valid, firsts_room, firsts_more, firsts_end}
use Rattle.bounds.proofs.add_first.Goals as goal

pub loop-event-init : goal.loop-event-init
loop-event-init c = search (firsts_start, rules)

pub first_bound-requires : goal.first_bound-requires
first_bound-requires c = search (firsts_valid, rules)

pub bounds-need-k : goal.bounds-need-k
bounds-need-k c = search (firsts_room, rules)

pub loop-event-preserved : goal.loop-event-preserved
loop-event-preserved c = search (firsts_more, rules)

pub returns : goal.returns
returns c = search (firsts_end, rules)
