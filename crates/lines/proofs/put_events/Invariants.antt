use Rattle.lines.proofs.NumbersLaws.{Begun}
use Rattle.lines.proofs.put_events.Given as goal

abbrev pub invariant-loop-k : goal.invariant-loop-k
invariant-loop-k l = Begun l.list l.at l.initial.out l.out l.end l.k-index
