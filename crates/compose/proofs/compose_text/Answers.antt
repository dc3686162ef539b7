use Rattle.std.proofs.lemmas.Result.{err_from_is_err_and}
use Rattle.composing.proofs.AnswerLaws.{threads_within, kinds_within, objects_within}
use Rattle.compose.proofs.ComposeLaws.{text_lent, notes_few, compose_bad, compose_good}
use Rattle.compose.proofs.compose_text.Goals as goal

pub read_text-requires : goal.read_text-requires
read_text-requires c = search text_lent

pub slice_bounds-threads-end : goal.slice_bounds-threads-end
slice_bounds-threads-end c = threads_within _ c.read_text.ensures _ c.in_ok-parts.was

pub slice_bounds-kinds-end : goal.slice_bounds-kinds-end
slice_bounds-kinds-end c = kinds_within _ c.read_text.ensures _ c.in_ok-parts.was

pub slice_bounds-objects-end : goal.slice_bounds-objects-end
slice_bounds-objects-end c = objects_within _ c.read_text.ensures _ c.in_ok-parts.was

pub write_parts-requires : goal.write_parts-requires
write_parts-requires c = notes_few c.read_text.ensures _ c.in_ok-parts.was _ c.requires

pub returns-in_err-parts : goal.returns-in_err-parts
returns-in_err-parts c =
    let failed = err_from_is_err_and c.from_residual.result c.from_residual.ensures.1 in
    rw (failed.1, failed.2) (compose_bad c.read_text.ensures _ c.in_err-parts.was c.args.file.now)

pub returns : goal.returns
returns c = compose_good c.read_text.ensures _ c.in_ok-parts.was c.write_parts.ensures
