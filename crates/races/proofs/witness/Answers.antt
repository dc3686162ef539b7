use Rattle.std.proofs.Common.{rules}
use Rattle.races.proofs.WitnessLaws.{rooted, root_found, valid_a, pair_coned, pair-shown}
use Rattle.races.proofs.witness.Goals as goal

pub outside-requires : goal.outside-requires
outside-requires c = search (rooted, rules)

pub returns-then-not-outside : goal.returns-then-not-outside
returns-then-not-outside c = search (root_found, rules)

pub thread_at-m-requires : goal.thread_at-m-requires
thread_at-m-requires c = search (valid_a, rules)

pub split-requires : goal.split-requires
split-requires c = search (pair_coned, rules)

pub returns : goal.returns
returns c = search (pair-shown, rules)
