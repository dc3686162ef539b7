use Rattle.std.proofs.Common.{rules}
use Rattle.wording.proofs.NoteLaws.{note_other, note_read}
use Rattle.wording.proofs.is_note.Goals as goal

pub returns-then-begins_note : goal.returns-then-begins_note
returns-then-begins_note c = search (note_read, rules)

pub returns-else-begins_note : goal.returns-else-begins_note
returns-else-begins_note c = search (note_other, rules)
