use Rattle.std.proofs.Common.{rules}
use Rattle.composing.proofs.SaidLaws.{count-start, count_comment, count-found, count_on, count_over}
use Rattle.composing.proofs.line_of.Goals as goal

pub loop-at-init : goal.loop-at-init
loop-at-init c = search (count-start, rules)

pub returns-then-seen-m : goal.returns-then-seen-m
returns-then-seen-m c = search (count-found, rules)

pub loop-at-preserved-else-seen-m : goal.loop-at-preserved-else-seen-m
loop-at-preserved-else-seen-m c = search (count_on, rules)

pub loop-at-preserved : goal.loop-at-preserved
loop-at-preserved c = search (count_comment, rules)

pub returns : goal.returns
returns c = search (count_over, rules)
