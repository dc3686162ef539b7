use Rattle.std.proofs.Common.{rules}
use Rattle.bounds.proofs.OpenLaws.{opens_start, opens_valid, opens_more, opens_end}
use Rattle.bounds.proofs.add_opens.Goals as goal

pub loop-k-init : goal.loop-k-init
loop-k-init c = search (opens_start, rules)

pub add_open-requires : goal.add_open-requires
add_open-requires c = search (opens_valid, rules)

pub loop-k-preserved : goal.loop-k-preserved
loop-k-preserved c = search (opens_more, rules)

pub returns : goal.returns
returns c = search (opens_end, rules)
