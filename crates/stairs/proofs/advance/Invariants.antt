use Rattle.table.specs.Judged.{events}
use Rattle.stairs.specs.Passes.{Upto}
use Rattle.stairs.proofs.advance.Given as goal

abbrev pub invariant-loop-i : goal.invariant-loop-i
invariant-loop-i l = Upto (events l.table) l.p l.ends l.i l.to l.reach
