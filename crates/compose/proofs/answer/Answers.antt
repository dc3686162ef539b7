use Rattle.std.proofs.Common.{sym}
use Rattle.std.proofs.lemmas.List.{length-take-le}
use Rattle.compose.proofs.ComposeLaws.{recording_within}
use Rattle.compose.proofs.answer.Goals as goal

pub slice_bounds-file-end : goal.slice_bounds-file-end
slice_bounds-file-end g c = recording_within c.compose_text.ensures _ c.in-Ok.is

pub slice_bounds-put-end : goal.slice_bounds-put-end
slice_bounds-put-end g c = sym (length-take-le _ _ (recording_within c.compose_text.ensures _ c.in-Ok.is))
