use Rattle.std.proofs.Common.{rules}
use Rattle.limits.proofs.KindLaws.{kind_other}
use Rattle.opening.proofs.StepLaws.{began-write, began-read, began-none}
use Rattle.opening.proofs.access_began.Goals as goal

pub returns-in-Write : goal.returns-in-Write
returns-in-Write c = search (began-write, rules)

pub returns-in-Read : goal.returns-in-Read
returns-in-Read c = search (began-read, rules)

pub returns-in_default : goal.returns-in_default
returns-in_default c = search (began-none, kind_other c.in_default.not-Write, kind_other c.in_default.not-Read, rules)
