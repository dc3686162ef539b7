use Rattle.std.proofs.Common.{rules}
use Rattle.checking.proofs.PassLaws.{passed_upto}
use Rattle.checking.proofs.Passed.has_passed.Goals as goal

pub returns : goal.returns
returns c = search (passed_upto, rules)
