use Rattle.std.proofs.Common.{rules, ap}
use Rattle.limits.specs.Kinds.{kind_number}
use Rattle.limits.proofs.KindLaws.{kind_other}
use Rattle.opening.proofs.StepLaws.{depth_fits, depth-positive, depth-acquire, depth-release, depth-other}
use Rattle.opening.proofs.DepthPass.put.Goals as goal

pub overflow_add-self : goal.overflow_add-self
overflow_add-self c = search (depth_fits, rules)

pub returns-in-Acquire : goal.returns-in-Acquire
returns-in-Acquire c = search (depth-acquire, ap kind_number c.in-Acquire.is, rules)

pub overflow_sub-self : goal.overflow_sub-self
overflow_sub-self c = search (depth-positive, rules)

pub returns-in-Release : goal.returns-in-Release
returns-in-Release c = search (depth-release, ap kind_number c.in-Release.is, rules)

pub returns-in_default : goal.returns-in_default
returns-in_default c = search (depth-other, kind_other c.in_default.not-Acquire, kind_other c.in_default.not-Release, rules)
