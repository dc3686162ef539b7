use Rattle.std.proofs.Common.{rules}
use Rattle.opening.proofs.StepLaws.{began-columns, began_last, began_outermost, began-other}
use Rattle.opening.proofs.BeganPass.put.Goals as goal

pub ends-requires : goal.ends-requires
ends-requires c = search (began-columns, rules)

pub returns-then-ends : goal.returns-then-ends
returns-then-ends c = search (began_last, rules)

pub begins-requires : goal.begins-requires
begins-requires c = search (began-columns, rules)

pub returns-then-begins : goal.returns-then-begins
returns-then-begins c = search (began_outermost, rules)

pub returns : goal.returns
returns c = search (began-other, rules)
