use Rattle.std.proofs.Common.{rules}
use Rattle.writing.proofs.WriteLaws.{hand_refused, hand_short, hand_good}
use Rattle.writing.proofs.hand.Goals as goal

pub returns-in_err-judge : goal.returns-in_err-judge
returns-in_err-judge c = search (hand_refused, rules)

pub returns-then-buffer-file : goal.returns-then-buffer-file
returns-then-buffer-file c = search (hand_short, rules)

pub returns : goal.returns
returns c = search (hand_good, rules)
