use Rattle.opening.specs.Knows.{NextEnds}
use Rattle.opening.proofs.PassLaws.{Behind}
use Rattle.opening.proofs.add_released.Given as goal

abbrev pub invariant-loop-k : goal.invariant-loop-k
invariant-loop-k l = Behind NextEnds 5 l.k l.initial.table l.next l.table
