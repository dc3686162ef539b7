use Rattle.std.proofs.Common.{rules}
use Rattle.checking.proofs.CheckLaws.{knows_none}
use Rattle.checking.proofs.Passed.nothing.Goals as goal

pub returns : goal.returns
returns c = search (knows_none, rules)
