use lib.ListN.{length}
use Rattle.table.specs.Judged.{events}
use Rattle.report.specs.Rest.{after, lines_from}
use Rattle.report.specs.Writing.{position_in}
use Rattle.nightly.proofs.NightlyLaws.{Between}
use Rattle.nightly.proofs.write_blocks.Given as goal

abbrev pub invariant-loop-next : goal.invariant-loop-next
invariant-loop-next g l = Between l.table l.initial.list l.initial.out l.list l.out l.next

abbrev pub decreases-loop-next : goal.decreases-loop-next
decreases-loop-next g l = length (after (lines_from (events l.table)) (position_in l.next))
