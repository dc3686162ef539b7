use Rattle.std.proofs.Common.{rules, arith, ap, ◌≡◌}
use Rattle.model.specs.Trace.{read, write}
use Rattle.limits.specs.Kinds.{kind_number}
use Rattle.limits.proofs.KindLaws.{kind_other}
use Rattle.opening.proofs.StepLaws.{observed-read, observed-write, observed-other}
use Rattle.opening.proofs.put_observed.Goals as goal

pub returns-in-Read : goal.returns-in-Read
returns-in-Read c = search (observed-read, ap kind_number c.in-Read.is, rules)

pub returns-in-Write : goal.returns-in-Write
returns-in-Write c =
    let is : kind_number c.kind_of.result ≡ write = ap kind_number c.in-Write.is in
    let not_read : kind_number c.kind_of.result ≡ read → ⊥ = λ e. omega (arith, is, e) in
    search (observed-write, is, not_read, rules)

pub returns-in_default : goal.returns-in_default
returns-in_default c = search (observed-other, kind_other c.in_default.not-Read, kind_other c.in_default.not-Write, rules)
