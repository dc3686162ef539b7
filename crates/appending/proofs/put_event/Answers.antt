use Rattle.std.proofs.Common.{rules}
use Rattle.appending.proofs.AppendLaws.{event_room, event_put}
use Rattle.appending.proofs.put_event.Goals as goal

pub put_decimal-requires : goal.put_decimal-requires
put_decimal-requires c = search (event_room, rules)

pub returns : goal.returns
returns c = search (event_put, rules)
