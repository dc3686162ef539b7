use Rattle.std.proofs.Common.{arith, rules}
use Rattle.judging.proofs.FileLaws.{judged_placed, judged_trace}
use Rattle.opening.proofs.OpenLaws.{open_refused, open_table}
use Rattle.opening.proofs.table_of.Goals as goal

pub events-requires : goal.events-requires
events-requires c = search (judged_placed, rules)

pub build-requires : goal.build-requires
build-requires c = (judged_trace _ _ c.judge.ensures _ c.in_ok-t.was _ c.events.ensures, omega arith)

pub returns-in_err-t : goal.returns-in_err-t
returns-in_err-t c = search (open_refused, rules)

pub returns : goal.returns
returns c = search (open_table, rules)
