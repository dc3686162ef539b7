use Rattle.std.proofs.Common.{rules}
use Rattle.limits.proofs.KindLaws.{kind_other}
use Rattle.checking.proofs.PassLaws.{sees-same, sees-other, lock_free, lock-own, lock_taken, no_access}
use Rattle.checking.proofs.Passed.access_fault.Goals as goal
use Rattle.checking.proofs.Passed.access_fault.Goals.{then-self-x-eq0-via-then-self-x-eq0, then-self-x-eq0-via-else-self-x-eq0+then-self-x}

pub returns-then-from-waits_at : goal.returns-then-from-waits_at
returns-then-from-waits_at c = search (sees-same, rules)

pub returns-else-from-waits_at : goal.returns-else-from-waits_at
returns-else-from-waits_at c = search (sees-other, rules)

pub returns-then-self-x-eq0 : goal.returns-then-self-x-eq0
returns-then-self-x-eq0 c =
    elim c.then-self-x-eq0.branch [
      | then-self-x-eq0-via-then-self-x-eq0 w ↦ search (lock_free, rules)
      | then-self-x-eq0-via-else-self-x-eq0+then-self-x w ↦ search (lock-own, rules)
    ]

pub returns-else-self-x : goal.returns-else-self-x
returns-else-self-x c = search (lock_taken, rules)

pub returns-in_default : goal.returns-in_default
returns-in_default c = search (no_access, kind_other c.in_default.not-Read, kind_other c.in_default.not-Acquire, rules)
