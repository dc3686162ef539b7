use Rattle.std.proofs.Common.{rules}
use Rattle.races.proofs.WitnessLaws.{merge-given, merge_ready, merge_climbing, merge_done}
use Rattle.races.proofs.merge.Goals as goal

pub fill-requires : goal.fill-requires
fill-requires c = search (merge-given, rules)

pub solve-requires : goal.solve-requires
solve-requires c = search (merge_ready, rules)

pub climb-requires : goal.climb-requires
climb-requires c = search (merge_climbing, rules)

pub returns : goal.returns
returns c = search (merge_done, rules)
