use Rattle.std.proofs.Common.{rules}
use Rattle.cone.proofs.BarLaws.{root_valid, bars_start, bars_more, bars_end}
use Rattle.cone.proofs.set_bars.Goals as goal

pub loop-r-init : goal.loop-r-init
loop-r-init c = search (bars_start, rules)

pub thread_place-c-requires : goal.thread_place-c-requires
thread_place-c-requires c = search (root_valid, rules)

pub loop-r-preserved : goal.loop-r-preserved
loop-r-preserved c = search (bars_more, rules)

pub returns : goal.returns
returns c = search (bars_end, rules)
