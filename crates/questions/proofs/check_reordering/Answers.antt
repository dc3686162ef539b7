use Rattle.std.proofs.Common.{rules}
use Rattle.questions.proofs.AnswerLaws.{good-check}
use Rattle.questions.proofs.check_reordering.Goals as goal

pub returns : goal.returns
returns c = search (good-check, c.in_ok-n.ensures, rules)
