use Rattle.std.proofs.Common.{rules}
use Rattle.cone.proofs.RaiseLaws.{stops, goes}
use Rattle.cone.proofs.RoundLaws.{start_coming, start_forked, before_both}
use Rattle.cone.proofs.Search.before_root.Goals as goal

pub raise-requires : goal.raise-requires
raise-requires c = search (start_forked c.args.self.table.now, rules)

pub returns-in_err-raise : goal.returns-in_err-raise
returns-in_err-raise c = search (stops, rules)

pub raise-requires-2 : goal.raise-requires-2
raise-requires-2 c = let f = goes c.in_ok-raise.ensures in (search rules, start_coming c.args.self.table.now _ _ c.previous_at.ensures (search rules))

pub returns : goal.returns
returns c = search (before_both, rules)
