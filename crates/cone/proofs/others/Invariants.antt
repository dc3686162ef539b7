use Rattle.table.specs.Judged.{events}
use Rattle.cone.specs.Split.{Putting}
use Rattle.cone.proofs.others.Given as goal

abbrev pub invariant-loop-k : goal.invariant-loop-k
invariant-loop-k l = Putting (events l.table) l.m l.tops l.k l.r l.out
