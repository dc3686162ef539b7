use Rattle.std.proofs.Common.{rules, ap}
use Rattle.limits.specs.Kinds.{kind_number}
use Rattle.limits.proofs.KindLaws.{kind_other}
use Rattle.opening.proofs.StepLaws.{forked_more, forked_same}
use Rattle.opening.proofs.ForkedPass.put.Goals as goal

pub returns-in-Fork : goal.returns-in-Fork
returns-in-Fork c = search (forked_more, ap kind_number c.in-Fork.is, rules)

pub returns-in_default : goal.returns-in_default
returns-in_default c = search (forked_same, kind_other c.in_default.not-Fork, rules)
