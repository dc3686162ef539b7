use Rattle.table.specs.Judged.{events}
use Rattle.cone.proofs.FollowLaws.{Back}
use Rattle.cone.proofs.Search.follow.Given as goal

abbrev pub invariant-loop-k : goal.invariant-loop-k
invariant-loop-k l = Back (events l.self.table.now) l.self.bars.now l.from l.k l.initial.tops l.tops

abbrev pub decreases-loop-k : goal.decreases-loop-k
decreases-loop-k l = l.k
