use Rattle.table.specs.Table.{trace}
use Rattle.checking.proofs.CheckLaws.{Passing}
use Rattle.checking.proofs.Passed.walk.Given as goal

abbrev pub invariant-loop-k : goal.invariant-loop-k
invariant-loop-k l = Passing (trace l.table.words.now) l.list l.k-index l.self.last l.self.writes l.self.locks
