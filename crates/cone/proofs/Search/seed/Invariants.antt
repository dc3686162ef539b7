use Rattle.std.proofs.Common.{length, ◌-◌}
use Rattle.table.specs.Judged.{events}
use Rattle.cone.specs.Following.{Seeded}
use Rattle.cone.proofs.Search.seed.Given as goal

abbrev pub invariant-loop-r : goal.invariant-loop-r
invariant-loop-r l = Seeded (events l.self.table.now) l.self.bars.now l.roots (length l.roots - length l.yielded) l.done l.tops
