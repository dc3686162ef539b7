use Rattle.std.proofs.Common.{rules}
use Rattle.std.proofs.lemmas.Result.{err_from_is_err_and}
use Rattle.checking.proofs.CheckLaws.{walked_fault, walked_lower, walked_higher, walked_both}
use Rattle.checking.proofs.first_fault.Goals as goal

pub walk-requires : goal.walk-requires
walk-requires c = search (c.nothing-passed.ensures, rules)

pub returns-in_err-walk : goal.returns-in_err-walk
returns-in_err-walk c =
    let p = err_from_is_err_and c.from_residual.result c.from_residual.ensures.1 in
    rw (p.1, p.2) (search (walked_fault, rules))

pub returns-then-not-is_enabled : goal.returns-then-not-is_enabled
returns-then-not-is_enabled c = search (walked_lower, c.in_ok-walk.ensures, rules)

pub returns-then-not-is_enabled-2 : goal.returns-then-not-is_enabled-2
returns-then-not-is_enabled-2 c = search (walked_higher, c.in_ok-walk.ensures, rules)

pub returns : goal.returns
returns c = search (walked_both, c.in_ok-walk.ensures, rules)
