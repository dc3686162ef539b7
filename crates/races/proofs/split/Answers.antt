use Rattle.std.proofs.Common.{rules}
use Rattle.races.proofs.WitnessLaws.{split_room, split_others, split_joinable, split_shown}
use Rattle.races.proofs.split.Goals as goal

pub moved-from-requires : goal.moved-from-requires
moved-from-requires c = search (split_room, rules)

pub others-n-requires : goal.others-n-requires
others-n-requires c = search (split_room, rules)

pub slice_bounds-join-end-2 : goal.slice_bounds-join-end-2
slice_bounds-join-end-2 c = search (split_others c.args.table.now, rules)

pub join-requires : goal.join-requires
join-requires c = search (split_joinable, rules)

pub returns : goal.returns
returns c = search (split_shown, rules)
