use Prim.Native.Nat.{◌-◌, ◌*◌}
use lib.ListN.{length}
use Rattle.table.specs.Judged.{events}
use Rattle.stairs.proofs.PassLaws.{Passing}
use Rattle.stairs.proofs.pass.Given as goal

abbrev pub invariant-loop-j : goal.invariant-loop-j
invariant-loop-j l = Passing (events l.table) l.m l.p l.q l.ends l.initial.need l.i l.n l.j l.raised l.need l.reach

abbrev pub decreases-loop-j : goal.decreases-loop-j
decreases-loop-j l = 65536 * (length l.q - l.j) - l.n
