use Rattle.table.specs.Table.{trace}
use Rattle.observing.proofs.EntriesLaws.{Entering}
use Rattle.observing.proofs.observations_in.Given as goal

abbrev pub invariant-loop-k : goal.invariant-loop-k
invariant-loop-k l = Entering (trace l.table.words.now) l.k l.initial.list l.list
