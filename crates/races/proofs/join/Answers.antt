use Rattle.std.proofs.Common.{rules}
use Rattle.races.proofs.WitnessLaws.{join_mergeable, join_front, join_few, join-shown}
use Rattle.races.proofs.join.Goals as goal

pub merge-requires : goal.merge-requires
merge-requires c = search (join_mergeable, rules)

pub slice_bounds-show-end : goal.slice_bounds-show-end
slice_bounds-show-end c = search (join_front, rules)

pub show-requires : goal.show-requires
show-requires c = search (join_few, rules)

pub returns : goal.returns
returns c = search (join-shown, rules)
