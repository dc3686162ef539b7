use Rattle.std.proofs.Common.{rules, tests}
use Rattle.std.proofs.lemmas.Iterator.{YieldsList-from_slice}
use Rattle.std.proofs.lemmas.Iterator.Consumers.{YieldsList-at, YieldsList-from_enumerate}
use Rattle.std.proofs.lemmas.Iterator.Search.{any_from_yields_List}
use Rattle.cone.proofs.BeyondLaws.{third, beyond_any}
use Rattle.cone.proofs.beyond.Goals as goal

pub returns : goal.returns
returns c =
    beyond_any _ c.args.m c.args.n c.told-tops _ (any_from_yields_List (third c.args.m c.args.n) c.any.new.self _ _ c.any.ensures.ran (YieldsList-from_enumerate (YieldsList-at c.enumerate.ensures.source (YieldsList-from_slice c.args.tops.now c.iter.ensures.rest)) c.enumerate.ensures.count) (λ x b q k. search (rules, tests)))
