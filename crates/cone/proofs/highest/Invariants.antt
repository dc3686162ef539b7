use Rattle.cone.specs.Split.{Highest}
use Rattle.cone.proofs.highest.Given as goal

abbrev pub invariant-loop-top : goal.invariant-loop-top
invariant-loop-top l = Highest l.tops l.top-index l.n
