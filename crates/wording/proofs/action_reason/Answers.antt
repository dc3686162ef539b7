use Rattle.std.proofs.Common.{arith}
use Rattle.std.proofs.lemmas.Grind.{common_steps}
use Rattle.wording.specs.Reasons.{action_reason}
use Rattle.wording.proofs.ReasonLaws.{known_by}
use Rattle.wording.proofs.action_reason.Goals as goal

pub returns-then-is_none : goal.returns-then-is_none
unfolding action_reason
returns-then-is_none c = let known = known_by c.read_kind.ensures in grind (arith, common_steps)

pub returns : goal.returns
unfolding action_reason
returns c = let known = known_by c.read_kind.ensures in grind (arith, common_steps)
