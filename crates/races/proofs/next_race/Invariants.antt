use Rattle.races.proofs.ListLaws.{Walking}
use Rattle.races.proofs.next_race.Given as goal

abbrev pub invariant-loop-x : goal.invariant-loop-x
invariant-loop-x l = Walking l.table l.a l.b l.initial.list l.list l.x l.after
