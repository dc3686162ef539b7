use Rattle.std.proofs.Common.{rules}
use Rattle.lines.proofs.LineLaws.{no-event, at_event_lem}
use Rattle.lines.proofs.put_at.Goals as goal

pub returns-in-None : goal.returns-in-None
returns-in-None c = search (no-event, rules)

pub returns-in-Some : goal.returns-in-Some
returns-in-Some c = search (at_event_lem, rules)
