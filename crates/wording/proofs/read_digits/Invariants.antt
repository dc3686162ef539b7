use Rattle.wording.proofs.NumberLaws.{Digits}
use Rattle.wording.proofs.read_digits.Given as goal

abbrev pub invariant-loop-b : goal.invariant-loop-b
invariant-loop-b l = Digits l.s l.n l.b-index
