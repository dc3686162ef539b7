use Rattle.std.proofs.Common.{rules}
use Rattle.limits.proofs.KindLaws.{kind_other}
use Rattle.checking.proofs.PassLaws.{pass_write, pass_acquire, pass_last, pass_other}
use Rattle.checking.proofs.Passed.add.Goals as goal

pub returns-in-Write : goal.returns-in-Write
returns-in-Write c = search (pass_write, rules)

pub returns-in-Acquire : goal.returns-in-Acquire
returns-in-Acquire c = search (pass_acquire, rules)

pub returns-then-released_at-at : goal.returns-then-released_at-at
returns-then-released_at-at c = search (pass_last, kind_other c.in_default.not-Write, kind_other c.in_default.not-Acquire, rules)

pub returns-else-released_at-at : goal.returns-else-released_at-at
returns-else-released_at-at c = search (pass_other, kind_other c.in_default.not-Write, kind_other c.in_default.not-Acquire, rules)
