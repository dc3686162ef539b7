use Rattle.std.proofs.Common.{rules}
use Rattle.report.proofs.WritingLaws.{line_first}
use Rattle.report.proofs.line.Goals as goal

pub returns : goal.returns
returns c = search (line_first, rules)
