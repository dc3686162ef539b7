use Rattle.std.proofs.Common.{rules}
use Rattle.report.proofs.WritingLaws.{fill_ended, fill_full, fill_on}
use Rattle.report.proofs.block.Goals as goal

pub returns-in_default : goal.returns-in_default
returns-in_default c = search (fill_ended, rules)

pub returns-then-out-progress-lt-LINE_BYTES : goal.returns-then-out-progress-lt-LINE_BYTES
returns-then-out-progress-lt-LINE_BYTES c = search (fill_full, rules)

pub loop-next-preserved : goal.loop-next-preserved
loop-next-preserved c = search (fill_on, rules)
