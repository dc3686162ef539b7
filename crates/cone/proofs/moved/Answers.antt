use Rattle.std.proofs.Common.{rules}
use Rattle.cone.proofs.SplitLaws.{moved-start, moved_valid, moved_fits, moved-room, moved_less, moved_more, moved_end}
use Rattle.cone.proofs.moved.Goals as goal

pub loop-k-init : goal.loop-k-init
loop-k-init c = search (moved-start, rules)

pub overflow_cast-out : goal.overflow_cast-out
overflow_cast-out c = search (moved_fits, rules)

pub bounds-out-r : goal.bounds-out-r
bounds-out-r c = search (moved-room, rules)

pub previous_at-k-requires : goal.previous_at-k-requires
previous_at-k-requires c = search (moved_valid, rules)

pub loop-k-smaller : goal.loop-k-smaller
loop-k-smaller c = search (moved_less, rules)

pub loop-k-preserved : goal.loop-k-preserved
loop-k-preserved c = search (moved_more, rules)

pub returns : goal.returns
returns c = search (moved_end, rules)
