use lib.ListN.{length}
use Rattle.writing.proofs.PutLaws.{Laid}
use Rattle.writing.proofs.put_events.Given as goal

abbrev pub invariant-loop-thread : goal.invariant-loop-thread
invariant-loop-thread l = Laid l.threads l.kinds l.objects l.at l.initial.out l.out l.end (length l.yielded)
