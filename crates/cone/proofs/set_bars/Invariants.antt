use Rattle.table.specs.Judged.{events}
use Rattle.cone.proofs.BarLaws.{Barring}
use Rattle.cone.proofs.set_bars.Given as goal

abbrev pub invariant-loop-r : goal.invariant-loop-r
invariant-loop-r l = Barring (events l.table) l.roots l.r-index l.bars
