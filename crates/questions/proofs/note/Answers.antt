use Rattle.std.proofs.Common.{rules}
use Rattle.questions.proofs.NoteLaws.{note_within, file_note, operators_note}
use Rattle.questions.proofs.note.Goals as goal

pub slice_bounds-result-end : goal.slice_bounds-result-end
slice_bounds-result-end c = search (note_within, rules)

pub returns-in-Some : goal.returns-in-Some
returns-in-Some c = search file_note

pub returns-in-None : goal.returns-in-None
returns-in-None c = search operators_note
