use Rattle.std.proofs.Common.{rules}
use Rattle.std.proofs.lemmas.Iterator.{YieldsList-from_slice, YieldsList-from_zip}
use Rattle.std.proofs.lemmas.Iterator.Consumers.{YieldsList-turn, YieldsList-end}
use Rattle.std.proofs.lemmas.List.{length_push}
use Rattle.writing.proofs.PutLaws.{laid_none, laid_one, laid_all}
use Rattle.writing.proofs.put_events.Goals as goal

pub loop-thread-init : goal.loop-thread-init
loop-thread-init c = search (laid_none, rules)

pub loop-thread-preserved : goal.loop-thread-preserved
loop-thread-preserved c =
    let all = YieldsList-from_zip {s = c.into_iter-thread-iterator.result} (YieldsList-from_zip (YieldsList-from_slice c.args.threads.now cc) (YieldsList-from_slice c.args.kinds.now cc)) (YieldsList-from_slice c.args.objects.now cc) in
    let turn = YieldsList-turn all c.loop-thread.yielded c.loop-thread.thread-iterator c.loop-thread.yielded_by c.next.result c.next.new.self _ c.in-Some.is c.next.ensures.steps in
    rw (length_push c.loop-thread.yielded ((c.in-Some.thread, c.in-Some.kind), c.in-Some.object)) (laid_one c.loop-thread.invariant turn.0 turn.1 c.put_event-end.ensures)

pub returns : goal.returns
returns c =
    let all = YieldsList-from_zip {s = c.into_iter-thread-iterator.result} (YieldsList-from_zip (YieldsList-from_slice c.args.threads.now cc) (YieldsList-from_slice c.args.kinds.now cc)) (YieldsList-from_slice c.args.objects.now cc) in
    let end = YieldsList-end all c.loop-thread.yielded c.loop-thread.thread-iterator c.loop-thread.yielded_by c.next.result c.next.new.self c.in-None.is c.next.ensures.steps in
    laid_all c.loop-thread.invariant end.1
