use Prim.Native.Nat.{◌+◌}
use lib.ListN.{length}
use Rattle.model.specs.Good.{max_thread}
use Rattle.table.specs.Judged.{events}
use Rattle.cone.specs.Following.{Seeded}
use Rattle.cone.proofs.OutsideLaws.{left}
use Rattle.cone.proofs.Search.reach.Given as goal

abbrev pub invariant-loop-done : goal.invariant-loop-done
invariant-loop-done l = Seeded (events l.self.table.now) l.self.bars.now l.roots 0 l.done l.tops

abbrev pub decreases-loop-done : goal.decreases-loop-done
decreases-loop-done l = left (length (events l.self.table.now)) (max_thread + 1) l.done
