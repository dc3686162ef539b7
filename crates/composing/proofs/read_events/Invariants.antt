use Prim.Native.Nat.{◌-◌}
use lib.ListN.{length}
use Rattle.composing.specs.Parts.{EventsRead}
use Rattle.composing.proofs.read_events.Given as goal

abbrev pub invariant-loop-at : goal.invariant-loop-at
invariant-loop-at l = EventsRead l.text l.from l.initial.threads l.threads l.initial.kinds l.kinds l.initial.objects l.objects l.count l.at

abbrev pub decreases-loop-at : goal.decreases-loop-at
decreases-loop-at l = length l.text - l.at
