use Rattle.std.proofs.Common.{rules}
use Rattle.cone.proofs.RaiseLaws.{stops}
use Rattle.cone.proofs.RoundLaws.{round_start, round_going, round_more, round_end}
use Rattle.cone.proofs.Search.round.Goals as goal

pub loop-c-init : goal.loop-c-init
loop-c-init c = search (round_start, rules)

pub catch_up-requires : goal.catch_up-requires
catch_up-requires c = search (round_going, rules)

pub returns-in_err-catch_up : goal.returns-in_err-catch_up
returns-in_err-catch_up c = search (stops, rules)

pub loop-c-preserved : goal.loop-c-preserved
loop-c-preserved c = search (round_more, c.in_ok-catch_up.ensures, rules)

pub returns : goal.returns
returns c = search (round_end, rules)
