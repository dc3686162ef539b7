use Rattle.std.proofs.Common.{rules}
use Rattle.bounds.proofs.EndLaws.{ending_valid, ending_more, ending_end}
use Rattle.bounds.proofs.add_ends.Goals as goal

pub add_end-requires : goal.add_end-requires
add_end-requires c = search (ending_valid, rules)

pub loop-e-preserved : goal.loop-e-preserved
loop-e-preserved c = search (ending_more, rules)

pub returns : goal.returns
returns c = search (ending_end, rules)
