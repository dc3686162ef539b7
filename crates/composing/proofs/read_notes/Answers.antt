use Rattle.std.proofs.Common.{rules}
use Rattle.composing.proofs.TextLaws.{notes_start, notes_over, note_five, notes_on}
use Rattle.composing.proofs.read_notes.Goals as goal

pub loop-at-init : goal.loop-at-init
loop-at-init c = search (notes_start, rules)

pub slice_bounds-put_note-count : goal.slice_bounds-put_note-count
slice_bounds-put_note-count c = search (note_five, rules)

pub slice_bounds-put_note-start : goal.slice_bounds-put_note-start
slice_bounds-put_note-start c = search (note_five, rules)

pub loop-at-preserved : goal.loop-at-preserved
loop-at-preserved c = search (notes_on, rules)

pub returns : goal.returns
returns c = search (notes_over, rules)
