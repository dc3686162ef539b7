use Rattle.table.specs.Judged.{events}
use Rattle.cone.proofs.SplitLaws.{Moving}
use Rattle.cone.proofs.moved.Given as goal

abbrev pub invariant-loop-k : goal.invariant-loop-k
invariant-loop-k l = Moving (events l.table) l.m l.tops l.k l.r l.out

abbrev pub decreases-loop-k : goal.decreases-loop-k
decreases-loop-k l = l.k
