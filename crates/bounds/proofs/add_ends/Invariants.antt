use Rattle.bounds.proofs.EndLaws.{Ending}
use Rattle.bounds.proofs.add_ends.Given as goal

abbrev pub invariant-loop-e : goal.invariant-loop-e
invariant-loop-e l = Ending l.table l.m l.p l.q l.initial.ends l.e-index l.ends
