use Rattle.std.proofs.Common.{rules}
use Rattle.opening.proofs.StepLaws.{released_last, released_outermost, released_other}
use Rattle.opening.proofs.put_released.Goals as goal

pub returns-then-ends : goal.returns-then-ends
returns-then-ends c = search (released_last, rules)

pub returns-then-begins : goal.returns-then-begins
returns-then-begins c = search (released_outermost, rules)

pub returns : goal.returns
returns c = search (released_other, rules)
