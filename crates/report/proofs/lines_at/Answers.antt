use Rattle.std.proofs.Common.{rules}
use Rattle.opening.proofs.OpenLaws.{opened_linked}
use Rattle.report.proofs.WritingLaws.{refused_writes, good_starting, good_writes}
use Rattle.report.proofs.lines_at.Goals as goal

pub new_block-requires : goal.new_block-requires
new_block-requires c = search (good_starting, rules)

pub returns-in-Err : goal.returns-in-Err
returns-in-Err c = search (refused_writes c.args.file.now c.in-Err.ensures, rules)

pub returns-in-Ok : goal.returns-in-Ok
returns-in-Ok c = search (good_writes c.args.file.now c.in-Ok.ensures, rules)

pub invariant_of-new_block : goal.invariant_of-new_block
invariant_of-new_block c = record { links = search (opened_linked, c.in-Ok.ensures, rules) }
