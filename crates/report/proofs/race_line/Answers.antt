use Rattle.std.proofs.Common.{rules}
use Rattle.report.proofs.WritingLaws.{line_ended, race_listed, race_long, race-room, count_fits, line_more}
use Rattle.report.proofs.race_line.Goals as goal

pub slice_bounds-witness-end : goal.slice_bounds-witness-end
slice_bounds-witness-end c = search (race_listed, rules)

pub slice_bounds-witness-end-in-Some : goal.slice_bounds-witness-end-in-Some
slice_bounds-witness-end-in-Some c = search (race_long, rules)

pub race-requires : goal.race-requires
race-requires c = search (race-room, rules)

pub overflow_add-result : goal.overflow_add-result
overflow_add-result c = search (count_fits, rules)

pub returns-in-None : goal.returns-in-None
returns-in-None c = search (line_ended, rules)

pub returns-in-Some : goal.returns-in-Some
returns-in-Some c = search (line_more, rules)
