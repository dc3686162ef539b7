use Rattle.std.proofs.Common.{rules}
use Rattle.showing.proofs.PutLaws.{thread_room, thread_put}
use Rattle.showing.proofs.put_thread.Goals as goal

pub put_decimal-requires : goal.put_decimal-requires
put_decimal-requires c = rw c.from.ensures (search (thread_room, rules))

pub returns : goal.returns
returns c = thread_put _ c.ranges.thread _ _ (rw c.from.ensures at c.put_decimal.ensures)
