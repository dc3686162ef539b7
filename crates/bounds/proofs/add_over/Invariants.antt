use Rattle.bounds.proofs.OverLaws.{Overs}
use Rattle.bounds.proofs.add_over.Given as goal

abbrev pub invariant-loop-event : goal.invariant-loop-event
invariant-loop-event l = Overs l.table l.m l.p l.q l.initial.need l.event-index l.last l.need
