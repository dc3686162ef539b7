use Rattle.races.proofs.ListLaws.{TryingAbove}
use Rattle.races.proofs.next_with.Given as goal

abbrev pub invariant-loop-y : goal.invariant-loop-y
invariant-loop-y l = TryingAbove l.table l.a l.b l.initial.list l.list l.y
