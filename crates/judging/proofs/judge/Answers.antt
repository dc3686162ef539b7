use Rattle.std.proofs.Common.{rules}
use Rattle.judging.proofs.FileLaws.{layout_good, layout_refused}
use Rattle.judging.proofs.judge.Goals as goal

pub returns-in_err-read : goal.returns-in_err-read
returns-in_err-read c = search (layout_refused, rules)

pub judge_events-requires : goal.judge_events-requires
judge_events-requires c = search (layout_good, rules)
