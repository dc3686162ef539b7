use Rattle.std.proofs.Common.{rules}
use Rattle.opening.proofs.PassLaws.{behind_start, behind_turn, behind_more, behind_end}
use Rattle.opening.proofs.KnowsLaws.{ends_new}
use Rattle.opening.proofs.add_released.Goals as goal

pub loop-k-init : goal.loop-k-init
loop-k-init c = search (behind_start, ends_new, rules)

pub put_released-requires : goal.put_released-requires
put_released-requires c = search (behind_turn, rules)

pub loop-k-preserved : goal.loop-k-preserved
loop-k-preserved c = search (behind_more, rules)

pub returns : goal.returns
returns c = search (behind_end, rules)
