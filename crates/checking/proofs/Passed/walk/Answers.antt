use Rattle.std.proofs.Common.{rules}
use Rattle.std.proofs.lemmas.Result.{err_from_is_err_and}
use Rattle.checking.proofs.CheckLaws.{passing_fault, passing_valid, passing_on, passing_end}
use Rattle.checking.proofs.Passed.walk.Goals as goal

pub returns-in_err-fault_at : goal.returns-in_err-fault_at
returns-in_err-fault_at c =
    let p = err_from_is_err_and c.from_residual.result c.from_residual.ensures.1 in
    rw (p.1, p.2) (search (passing_fault, c.in_err-fault_at.ensures, rules))

pub add-requires : goal.add-requires
add-requires c = search (passing_valid, rules)

pub loop-k-preserved : goal.loop-k-preserved
loop-k-preserved c = search (passing_on, c.in_ok-fault_at.ensures, rules)

pub returns : goal.returns
returns c = search (passing_end, rules)
