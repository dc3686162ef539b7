use Rattle.bounds.specs.Steps.{Reading}
use Rattle.bounds.proofs.note_reads.Given as goal

abbrev pub invariant-loop-i : goal.invariant-loop-i
invariant-loop-i l = Reading l.table l.m l.p l.k l.i l.seen
