use Rattle.std.proofs.Common.{rules}
use Rattle.opening.proofs.StepLaws.{previous_step}
use Rattle.opening.proofs.PreviousPass.put.Goals as goal

pub returns : goal.returns
returns c = search (previous_step, rules)
