use Rattle.std.proofs.Common.{rules}
use Rattle.std.proofs.lemmas.Result.{err_from_is_err_and}
use Rattle.checking.proofs.PassLaws.{number_low, number_high, number_valid, not-next, access_found, not_ready, no_fault}
use Rattle.checking.proofs.Passed.fault_at.Goals as goal
use Rattle.checking.proofs.Passed.fault_at.Goals.{then-at-lt1-via-then-at-lt1, then-at-lt1-via-else-at-lt1+then-count-at}

pub returns-then-at-lt1 : goal.returns-then-at-lt1
returns-then-at-lt1 c =
    elim c.then-at-lt1.branch [
      | then-at-lt1-via-then-at-lt1 w ↦ search (number_low, rules)
      | then-at-lt1-via-else-at-lt1+then-count-at w ↦ search (number_high, rules)
    ]

pub returns-then-not-is_next : goal.returns-then-not-is_next
returns-then-not-is_next c = search (not-next, number_valid, rules)

pub returns-in_err-access_fault : goal.returns-in_err-access_fault
returns-in_err-access_fault c =
    let p = err_from_is_err_and c.from_residual.result c.from_residual.ensures.1 in
    rw (p.1, p.2) (search (access_found, number_valid, rules))

pub returns-then-not-is_ready : goal.returns-then-not-is_ready
returns-then-not-is_ready c = search (not_ready, number_valid, rules)

pub returns : goal.returns
returns c = search (no_fault, number_valid, rules)
