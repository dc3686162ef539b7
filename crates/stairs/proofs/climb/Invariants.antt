use mathlib.Core.Path.{◌≡◌}
use Prim.Native.Nat.{◌+◌}
use Rattle.stairs.proofs.ClimbLaws.{Merging}
use Rattle.stairs.proofs.climb.Given as goal

abbrev pub invariant-loop-k : goal.invariant-loop-k
invariant-loop-k l = Merging l.p l.q l.need l.initial.out l.i l.j l.out × (l.i + l.j ≡ l.k)
