use Rattle.std.proofs.Common.{rules}
use Rattle.model.proofs.Lists.{front_length}
use Rattle.verdicts.proofs.VerdictLaws.{area_long, pair_decidable, pair_decided}
use Rattle.verdicts.proofs.verdict_with.Goals as goal

pub slice_bounds-decide-end : goal.slice_bounds-decide-end
slice_bounds-decide-end c = search (area_long, rules)

pub slice_bounds-decide-end-2 : goal.slice_bounds-decide-end-2
slice_bounds-decide-end-2 c = front_length _ c.args.area.now (search (area_long, rules))

pub decide-requires : goal.decide-requires
decide-requires c = search (pair_decidable c.requires c.args.area.now, rules)

pub returns : goal.returns
returns c = search (pair_decided, rules)
