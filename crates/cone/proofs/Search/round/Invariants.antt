use Rattle.table.specs.Judged.{events}
use Rattle.cone.specs.Following.{Round}
use Rattle.cone.proofs.Search.round.Given as goal

abbrev pub invariant-loop-c : goal.invariant-loop-c
invariant-loop-c l = Round (events l.self.table.now) l.self.bars.now l.c l.initial.done l.done l.initial.tops l.tops
