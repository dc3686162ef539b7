use Prim.Native.Nat.{◌-◌}
use lib.ListN.{length}
use Rattle.composing.proofs.SaidLaws.{Counted}
use Rattle.composing.proofs.line_of.Given as goal

abbrev pub invariant-loop-at : goal.invariant-loop-at
invariant-loop-at l = Counted l.text l.m l.seen l.number l.at

abbrev pub decreases-loop-at : goal.decreases-loop-at
decreases-loop-at l = length l.text - l.at
