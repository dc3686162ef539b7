use Rattle.std.proofs.Common.{rules}
use Rattle.lines.proofs.LineLaws.{refused_put}
use Rattle.lines.proofs.refused.Goals as goal

pub returns : goal.returns
returns c = search (refused_put, rules)
