use Rattle.std.proofs.Common.{rules}
use Rattle.report.proofs.PlaceLaws.{lines-answered}
use Rattle.report.proofs.next_lines.Goals as goal

pub returns : goal.returns
returns c = search (lines-answered, rules)
