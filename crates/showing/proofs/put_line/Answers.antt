use Rattle.std.proofs.Common.{rules}
use Rattle.showing.proofs.PutLaws.{line_put}
use Rattle.showing.proofs.put_line.Goals as goal

pub returns : goal.returns
returns c = search (line_put, rules)
