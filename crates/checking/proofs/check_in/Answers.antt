use Rattle.std.proofs.Common.{rules}
use Rattle.checking.proofs.CheckLaws.{lower_valid, higher_valid, check_refused, check_told}
use Rattle.checking.proofs.check_in.Goals as goal

pub returns-then-not-conflicting : goal.returns-then-not-conflicting
returns-then-not-conflicting c = search (check_refused, rules)

pub first_fault-requires : goal.first_fault-requires
first_fault-requires c = search (lower_valid, higher_valid, rules)

pub returns : goal.returns
returns c = search (check_told, rules)
