use Rattle.std.proofs.Common.{rules}
use Rattle.composing.proofs.LinesLaws.{next_begins}
use Rattle.composing.proofs.next_line.Goals as goal

pub returns : goal.returns
returns c = search (next_begins, rules)
