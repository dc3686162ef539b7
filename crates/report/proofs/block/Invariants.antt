use lib.ListN.{length}
use Rattle.table.specs.Judged.{events}
use Rattle.report.specs.Rest.{lines_from}
use Rattle.report.proofs.WritingLaws.{Filling}
use Rattle.report.proofs.block.Given as goal

abbrev pub invariant-loop-next : goal.invariant-loop-next
invariant-loop-next l = Filling l.table l.initial.position l.initial.list l.initial.out l.list l.out l.position l.bytes

abbrev pub decreases-loop-next : goal.decreases-loop-next
decreases-loop-next l = length (lines_from (events l.table) l.position)
