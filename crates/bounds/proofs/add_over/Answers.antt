use Rattle.std.proofs.Common.{rules}
use Rattle.bounds.proofs.OverLaws.{overs_start, overs_valid, overs_more, overs_end}
use Rattle.bounds.proofs.add_over.Goals as goal

pub loop-event-init : goal.loop-event-init
loop-event-init c = search (overs_start, rules)

pub read_over-requires : goal.read_over-requires
read_over-requires c = search (overs_valid, rules)

pub note_write-requires : goal.note_write-requires
note_write-requires c = search (overs_valid, rules)

pub loop-event-preserved : goal.loop-event-preserved
loop-event-preserved c = search (overs_more, rules)

pub returns : goal.returns
returns c = search (overs_end, rules)
