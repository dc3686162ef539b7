use Rattle.std.proofs.Common.{rules}
use Rattle.lines.proofs.LineLaws.{race_put}
use Rattle.lines.proofs.race.Goals as goal

pub returns : goal.returns
returns c = search (race_put, rules)
