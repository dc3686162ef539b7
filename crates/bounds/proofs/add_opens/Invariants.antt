use Rattle.bounds.proofs.OpenLaws.{Opens}
use Rattle.bounds.proofs.add_opens.Given as goal

abbrev pub invariant-loop-k : goal.invariant-loop-k
invariant-loop-k l = Opens l.table l.m l.tops l.p l.q l.last l.initial.need l.k-index l.need
