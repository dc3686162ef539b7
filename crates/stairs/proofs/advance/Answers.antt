use Rattle.std.proofs.Common.{rules}
use Rattle.stairs.proofs.SlotLaws.{advance_end, advance_stop, advance_valid, advance_room, advance_more}
use Rattle.stairs.proofs.advance.Goals as goal

pub returns-then-to-p : goal.returns-then-to-p
returns-then-to-p c = search (advance_stop, rules)

pub note-requires : goal.note-requires
note-requires c = search (advance_valid, advance_room, rules)

pub loop-i-preserved : goal.loop-i-preserved
loop-i-preserved c = search (advance_more, rules)

pub returns : goal.returns
returns c = search (advance_end, rules)
