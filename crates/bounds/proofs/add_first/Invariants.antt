use Rattle.bounds.proofs.FirstLaws.{Firsts}
use Rattle.bounds.proofs.add_first.Given as goal

abbrev pub invariant-loop-event : goal.invariant-loop-event
invariant-loop-event l = Firsts l.table l.m l.p l.q l.initial.need l.i l.event-index l.seen l.need
