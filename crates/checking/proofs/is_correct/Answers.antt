use Rattle.std.proofs.Common.{rules}
use Rattle.checking.proofs.CheckLaws.{walked_correct}
use Rattle.checking.proofs.is_correct.Goals as goal

pub walk-requires : goal.walk-requires
walk-requires c = search (c.nothing.ensures, rules)

pub returns : goal.returns
returns c = search (walked_correct, rules)
