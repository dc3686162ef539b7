use Rattle.showing.proofs.PutLaws.{EventsLaid}
use Rattle.showing.proofs.put_events.Given as goal

abbrev pub invariant-loop-k : goal.invariant-loop-k
invariant-loop-k l = EventsLaid l.ev l.at l.initial.out l.out l.end l.k
