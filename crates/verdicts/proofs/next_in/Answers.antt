use Rattle.std.proofs.Common.{rules}
use Rattle.model.proofs.Lists.{front_length}
use Rattle.verdicts.proofs.VerdictLaws.{area_long}
use Rattle.verdicts.proofs.NextLaws.{next_searchable, next-found}
use Rattle.verdicts.proofs.next_in.Goals as goal

pub slice_bounds-find_next-end : goal.slice_bounds-find_next-end
slice_bounds-find_next-end c = search (area_long, rules)

pub slice_bounds-find_next-end-2 : goal.slice_bounds-find_next-end-2
slice_bounds-find_next-end-2 c = front_length _ c.args.area.now (search (area_long, rules))

pub find_next-requires : goal.find_next-requires
find_next-requires c = search (next_searchable c.args.area.now, rules)

pub returns : goal.returns
returns c = search (next-found, rules)
