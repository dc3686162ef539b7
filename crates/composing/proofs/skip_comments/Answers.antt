use Rattle.std.proofs.Common.{rules}
use Rattle.composing.proofs.SaidLaws.{says_nothing, skip_on}
use Rattle.composing.proofs.skip_comments.Goals as goal

pub loop-at-init : goal.loop-at-init
loop-at-init c = search (says_nothing, rules)

pub loop-at-preserved : goal.loop-at-preserved
loop-at-preserved c = search (skip_on, rules)
