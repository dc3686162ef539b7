use Rattle.std.proofs.Common.{rules}
use Rattle.cone.proofs.RaiseLaws.{stops}
use Rattle.cone.proofs.FollowLaws.{follow_start, follow_raising, follow_within, follow_exempt, follow_valid, follow_less, follow_more, follow_end}
use Rattle.cone.proofs.Search.follow.Goals as goal

pub loop-k-init : goal.loop-k-init
loop-k-init c = search (follow_start, rules)

pub bring-requires : goal.bring-requires
bring-requires c = search (follow_raising, follow_within, follow_exempt, rules)

pub returns-in_err-bring : goal.returns-in_err-bring
returns-in_err-bring c = search (stops, rules)

pub previous_at-k-requires : goal.previous_at-k-requires
previous_at-k-requires c = search (follow_valid, rules)

pub loop-k-smaller : goal.loop-k-smaller
loop-k-smaller c = search (follow_less, rules)

pub loop-k-preserved : goal.loop-k-preserved
loop-k-preserved c = search (follow_more, c.in_ok-bring.ensures, rules)

pub returns : goal.returns
returns c = search (follow_end, rules)
