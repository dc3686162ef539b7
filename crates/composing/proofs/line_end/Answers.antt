use Rattle.std.proofs.Common.{rules}
use Rattle.composing.proofs.LinesLaws.{line_ends}
use Rattle.composing.proofs.line_end.Goals as goal

pub returns : goal.returns
returns c = search (line_ends, rules)
