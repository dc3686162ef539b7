use Rattle.std.proofs.Common.{rules}
use Rattle.cone.proofs.RaiseLaws.{stops, goes}
use Rattle.cone.proofs.BringLaws.{bring_observed, bring_exempt, bring_released, bring_both}
use Rattle.cone.proofs.Search.bring.Goals as goal

pub raise-requires : goal.raise-requires
raise-requires c = search (bring_observed c.args.self.table.now, rules)

pub returns-in_err-raise : goal.returns-in_err-raise
returns-in_err-raise c = search (stops, rules)

pub returns-then-exempt : goal.returns-then-exempt
returns-then-exempt c = search (bring_exempt, rules)

pub raise-requires-2 : goal.raise-requires-2
raise-requires-2 c = let f = goes c.in_ok-raise.ensures in
    (search rules, bring_released c.args.self.table.now _ _ c.released_at.ensures (search rules) _ c.requires.1.1 c.if-exempt.false)

pub returns : goal.returns
returns c = search (bring_both, rules)
