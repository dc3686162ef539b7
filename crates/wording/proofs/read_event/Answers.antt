use Rattle.std.proofs.Common.{rules, ◌<◌, ◌≡◌}
use Rattle.wording.proofs.LineLaws.{event_short, event_number_lem, event_large, event_read}
use Rattle.wording.proofs.read_event.Goals as goal

pub returns-then-end-line : goal.returns-then-end-line
returns-then-end-line c = search (event_short, rules)

pub returns-in_err-n : goal.returns-in_err-n
returns-in_err-n c = search (event_number_lem, rules)

pub returns-in_err-thread : goal.returns-in_err-thread
returns-in_err-thread c =
    let h : 255 < c.in_ok-n.n = search rules in
    rw c.from_residual-in_err-thread.ensures (event_large _ _ c.first_at-end.ensures.value _ c.read_number.ensures c.in_ok-n.n c.in_ok-n.was h)

pub returns : goal.returns
returns c =
    let e : c.in_ok-thread.thread ≡ c.in_ok-n.n = search rules in
    let l : c.in_ok-n.n < 256 = search rules in
    event_read _ _ c.first_at-end.ensures.value _ c.read_number.ensures c.in_ok-n.n c.in_ok-n.was c.if-end-line.false c.first_at-end.ensures.upper_bound _ e l _ c.read_action.ensures
