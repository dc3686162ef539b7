use Rattle.std.proofs.Common.{rules}
use Rattle.lines.proofs.LineLaws.{races_put}
use Rattle.lines.proofs.races.Goals as goal

pub returns : goal.returns
returns c = search (races_put, rules)
