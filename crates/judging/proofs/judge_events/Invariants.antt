use Rattle.format.specs.Bytes.{trace_in}
use Rattle.judging.proofs.WalkLaws.{Judging}
use Rattle.judging.proofs.judge_events.Given as goal

abbrev pub invariant-loop-k : goal.invariant-loop-k
invariant-loop-k l = Judging (trace_in l.ev) l.k l.locks l.threads
