use Rattle.std.proofs.Common.{rules}
use Rattle.wording.proofs.LineLaws.{line_note, line_other}
use Rattle.wording.proofs.read_line.Goals as goal

pub returns-then-is_note : goal.returns-then-is_note
returns-then-is_note c = search (line_note, rules)

pub returns : goal.returns
returns c = search (line_other, rules)
