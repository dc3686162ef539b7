use Rattle.std.proofs.Common.{arith, rules, ◌≤◌, length}
use Rattle.format.specs.Bytes.{trace_in}
use Rattle.judging.proofs.WalkLaws.{judging_start, judging_valid, judging_pass, judging_object, judging_offset, judging_hold, effect_limits}
use Rattle.judging.proofs.FileLaws.{few_events, events_refused, events-good}
use Rattle.judging.proofs.judge_events.Goals as goal
use Rattle.judging.proofs.judge_events.Goals.{in-Some, in_default}

pub loop-k-init : goal.loop-k-init
loop-k-init c = search (judging_start, few_events, rules)

pub overflow_add-k-end : goal.overflow_add-k-end
overflow_add-k-end c = omega (arith, few_events _ _ c.requires _ c.events-ev.ensures)

pub returns-in_err-effect : goal.returns-in_err-effect
returns-in_err-effect c = search (events_refused, c.in_err-effect.ensures, rules)

pub bounds-locks-object : goal.bounds-locks-object
bounds-locks-object c = search (judging_object, c.in_ok-effect.ensures, rules)

pub offset_bounds-locks-object : goal.offset_bounds-locks-object
offset_bounds-locks-object c = search (judging_offset, c.in_ok-effect.ensures, rules)

pub bounds-locks-object-in-Some : goal.bounds-locks-object-in-Some
bounds-locks-object-in-Some c = search (judging_object, c.in_ok-effect.ensures, rules)

pub with_event-threads-requires : goal.with_event-threads-requires
with_event-threads-requires c = (search (judging_valid, rules), search rules, effect_limits c.loop-k.invariant (omega arith) _ c.in_ok-effect.ensures)

pub loop-k-preserved : goal.loop-k-preserved
loop-k-preserved c =
    let h : c.loop-k.k ≤ length (trace_in c.events-ev.result.now) = omega arith in
    elim c.match-effect.branch [
      | in-Some w ↦ judging_hold c.loop-k.invariant h _ c.in_ok-effect.ensures _ w.object_at-object.ensures _ w.in-Some.is _ w.locks-is _ c.with_event-threads.ensures
      | in_default w ↦ judging_pass c.loop-k.invariant h _ c.in_ok-effect.ensures w.in_default.is _ w.locks-is _ c.with_event-threads.ensures
    ]

pub returns : goal.returns
returns c = search (events-good, rules)
