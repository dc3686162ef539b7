use Rattle.format.specs.Bytes.{trace_in}
use Rattle.opening.proofs.PassLaws.{Forward}
use Rattle.opening.proofs.add_own.Given as goal

abbrev pub invariant-loop-k : goal.invariant-loop-k
invariant-loop-k l = Forward (trace_in l.ev) l.c l.n l.k l.initial.table l.table
