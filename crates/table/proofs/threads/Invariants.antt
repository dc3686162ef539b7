use Rattle.table.specs.Table.{trace}
use Rattle.table.proofs.ThreadLaws.{Seen}
use Rattle.table.proofs.threads.Given as goal

abbrev pub invariant-loop-k : goal.invariant-loop-k
invariant-loop-k l = Seen (trace l.table) l.k l.seen
