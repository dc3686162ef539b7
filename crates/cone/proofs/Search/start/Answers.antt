use Rattle.std.proofs.Common.{rules}
use Rattle.cone.proofs.RaiseLaws.{stops, goes}
use Rattle.cone.proofs.RoundLaws.{following_kept, started}
use Rattle.cone.proofs.Search.start.Goals as goal

pub returns-in_err-before_root : goal.returns-in_err-before_root
returns-in_err-before_root c = search (stops, rules)

pub catch_up-requires : goal.catch_up-requires
catch_up-requires c = let f = goes c.in_ok-before_root.ensures in search (following_kept, rules)

pub returns : goal.returns
returns c = search (started, rules)
