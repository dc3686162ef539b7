use Rattle.std.proofs.Common.{rules, arith, ◌∙◌}
use Rattle.std.proofs.lemmas.Iterator.Adapters.{YieldsList-from_rev_slice}
use Rattle.std.proofs.lemmas.Iterator.Consumers.{YieldsList-turn, YieldsList-end}
use Rattle.std.proofs.lemmas.List.{length_push}
use lib.ListN.{length-reverse}
use Rattle.cone.proofs.RaiseLaws.{stops}
use Rattle.cone.proofs.RoundLaws.{seed_start, seed_turn, seed_root, seed_more, seed_end}
use Rattle.cone.proofs.Search.seed.Goals as goal

pub loop-r-init : goal.loop-r-init
loop-r-init c = search (seed_start, rules)

pub start-requires : goal.start-requires
start-requires c =
    let t = seed_turn _ _ _ (YieldsList-turn (YieldsList-from_rev_slice c.args.roots.now cc) c.loop-r.yielded _ c.loop-r.yielded_by _ _ c.in-Some.field-0 c.in-Some.is c.next.ensures.steps) in
    (search rules, seed_root c.requires.1 _ _ (c.from.ensures ∙ t.1) (omega (arith, t.0)))

pub returns-in_err-start : goal.returns-in_err-start
returns-in_err-start c = search (stops, rules)

pub loop-r-preserved : goal.loop-r-preserved
loop-r-preserved c =
    let t = seed_turn _ _ _ (YieldsList-turn (YieldsList-from_rev_slice c.args.roots.now cc) c.loop-r.yielded _ c.loop-r.yielded_by _ _ c.in-Some.field-0 c.in-Some.is c.next.ensures.steps) in
    rw (length_push c.loop-r.yielded c.in-Some.field-0) (seed_more c.loop-r.invariant (omega (arith, t.0)) (c.from.ensures ∙ t.1) c.in_ok-start.ensures)

pub returns : goal.returns
returns c =
    let t = YieldsList-end (YieldsList-from_rev_slice c.args.roots.now cc) c.loop-r.yielded _ c.loop-r.yielded_by _ _ c.in-None.is c.next.ensures.steps in
    seed_end c.loop-r.invariant (omega (arith, t.1, length-reverse c.args.roots.now))
