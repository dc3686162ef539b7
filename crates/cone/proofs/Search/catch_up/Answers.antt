use Rattle.std.proofs.Common.{rules}
use Rattle.cone.proofs.RaiseLaws.{stops, goes}
use Rattle.cone.proofs.FollowLaws.{caught_not, caught_raising, caught_within, caught_valid, caught_forked, caught}
use Rattle.cone.proofs.Search.catch_up.Goals as goal

pub returns-then-from-to : goal.returns-then-from-to
returns-then-from-to c = search (caught_not, rules)

pub forked_at-requires : goal.forked_at-requires
forked_at-requires c = search (caught_valid, rules)

pub raise-requires : goal.raise-requires
raise-requires c = search (caught_raising, caught_forked, rules)

pub returns-in_err-raise : goal.returns-in_err-raise
returns-in_err-raise c = search (stops, rules)

pub follow-requires : goal.follow-requires
follow-requires c = let f = goes c.in_ok-raise.ensures in search (caught_within, rules)

pub returns : goal.returns
returns c = search (caught, rules)
