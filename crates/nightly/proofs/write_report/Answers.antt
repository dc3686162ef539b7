use Rattle.std.proofs.Common.{rules}
use Rattle.opening.proofs.OpenLaws.{opened_linked}
use Rattle.report.proofs.WritingLaws.{good_starting}
use Rattle.nightly.proofs.write_report.Goals as goal

pub write_lines-requires : goal.write_lines-requires
write_lines-requires g c = search (good_starting, rules)

pub invariant_of-write_lines : goal.invariant_of-write_lines
invariant_of-write_lines g c = record { links = search (opened_linked, c.in-Ok.ensures, rules) }
