use Rattle.std.proofs.Common.{rules}
use Rattle.composing.proofs.SaidLaws.{said_last}
use Rattle.composing.proofs.next_said.Goals as goal

pub returns-then-end-text : goal.returns-then-end-text
returns-then-end-text c = search (said_last, rules)
