use Rattle.std.proofs.Common.{rules}
use Rattle.lines.proofs.LineLaws.{events_put}
use Rattle.lines.proofs.events.Goals as goal

pub returns : goal.returns
returns c = search (events_put, rules)
