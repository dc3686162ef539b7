use Rattle.std.proofs.Common.{rules}
use Rattle.report.proofs.WritingLaws.{block_within}
use Rattle.nightly.proofs.NightlyLaws.{between_start, between_writing, between_again, between_less}
use Rattle.nightly.proofs.write_blocks.Goals as goal

pub loop-next-init : goal.loop-next-init
loop-next-init g c = search (between_start, rules)

pub block-progress-requires : goal.block-progress-requires
block-progress-requires g c = search (between_writing, rules)

pub slice_bounds-write_all-end : goal.slice_bounds-write_all-end
slice_bounds-write_all-end g c = search (block_within, rules)

pub loop-next-smaller : goal.loop-next-smaller
loop-next-smaller g c = search (between_less, rules)

pub loop-next-preserved : goal.loop-next-preserved
loop-next-preserved g c = search (between_again, rules)
