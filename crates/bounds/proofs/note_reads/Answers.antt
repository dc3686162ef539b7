use Rattle.std.proofs.Common.{rules}
use Rattle.bounds.proofs.FirstLaws.{reading_valid, reading_stop, reading_more, reading_end}
use Rattle.bounds.proofs.note_reads.Goals as goal

pub returns-then-k-e : goal.returns-then-k-e
returns-then-k-e c = search (reading_stop, rules)

pub note_read-requires : goal.note_read-requires
note_read-requires c = search (reading_valid, rules)

pub loop-i-preserved : goal.loop-i-preserved
loop-i-preserved c = search (reading_more, rules)

pub returns : goal.returns
returns c = search (reading_end, rules)
