use Prim.Native.Nat.{◌*◌, ◌-◌}
use lib.ListN.{length}
use Rattle.stairs.specs.Passes.{total}
use Rattle.stairs.proofs.SolveLaws.{Solving}
use Rattle.stairs.proofs.solve.Given as goal

abbrev pub invariant-loop : goal.invariant-loop
invariant-loop l = Solving l.table l.m l.p l.q l.ends l.initial.need l.need

abbrev pub decreases-loop : goal.decreases-loop
decreases-loop l = 65535 * length l.initial.need - total l.need
