use Rattle.std.proofs.Common.{rules}
use Rattle.checking.proofs.PassLaws.{next-told}
use Rattle.checking.proofs.Passed.is_next.Goals as goal

pub returns : goal.returns
returns c = search (next-told, rules)
