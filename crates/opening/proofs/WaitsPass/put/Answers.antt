use Rattle.std.proofs.Common.{rules, ap}
use Rattle.limits.specs.Kinds.{kind_number}
use Rattle.opening.proofs.StepLaws.{waits_join}
use Rattle.opening.proofs.WaitsPass.put.Goals as goal

pub returns-in-Join : goal.returns-in-Join
returns-in-Join c = search (waits_join, ap kind_number c.in-Join.is, rules)
