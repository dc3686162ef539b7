use Rattle.std.proofs.Common.{rules, tests}
use Rattle.std.proofs.lemmas.Iterator.{YieldsList-from_slice, YieldsList-from_zip}
use Rattle.std.proofs.lemmas.Iterator.Consumers.{YieldsList-at}
use Rattle.std.proofs.lemmas.Iterator.Search.{any_from_yields_List}
use Rattle.cone.proofs.RoundLaws.{rises, behind_any}
use Rattle.cone.proofs.behind.Goals as goal

pub returns : goal.returns
returns c =
    behind_any _ _ c.told-done c.told-tops _ (any_from_yields_List rises c.any.new.self _ _ c.any.ensures.ran (YieldsList-from_zip (YieldsList-at c.zip.ensures.first (YieldsList-from_slice c.args.done.now c.iter.ensures.rest)) (YieldsList-at c.zip.ensures.second (YieldsList-from_slice c.args.tops.now c.iter-2.ensures.rest))) (λ x b q k. search (rules, tests)))
