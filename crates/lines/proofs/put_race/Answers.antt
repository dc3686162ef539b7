use Rattle.std.proofs.Common.{rules}
use Rattle.lines.proofs.LineLaws.{race_head_put}
use Rattle.lines.proofs.put_race.Goals as goal

pub returns : goal.returns
returns c = search (race_head_put, rules)
