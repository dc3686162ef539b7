use Rattle.std.proofs.Common.{arith, rules}
use Rattle.races.proofs.ListLaws.{with_start, trying_first, above_start, higher_fits, trying_lent, trying_lower, with_found, above_on, with_no_more}
use Rattle.races.proofs.next_with.Goals as goal

pub returns-then-a-lt1 : goal.returns-then-a-lt1
returns-then-a-lt1 c = search (with_start, rules)

pub event_at-event-requires : goal.event_at-event-requires
event_at-event-requires c = search (trying_first, rules)

pub loop-y-init : goal.loop-y-init
loop-y-init c = above_start c.args.table.now c.args.a c.args.b (search rules) (search rules) (search rules) c.from-y.result (omega arith) (omega arith) (λ h. omega arith)

pub race_on-requires : goal.race_on-requires
race_on-requires c = search (trying_lent c.loop-y.invariant.trying, trying_lower, rules)

pub returns-in-Some : goal.returns-in-Some
returns-in-Some c = search (with_found c.loop-y.invariant.trying, rules)

pub overflow_cast-result : goal.overflow_cast-result
overflow_cast-result c = search (higher_fits c.loop-y.invariant.trying, rules)

pub loop-y-preserved : goal.loop-y-preserved
loop-y-preserved c = search (above_on, rules)

pub returns : goal.returns
returns c = with_no_more c.loop-y.invariant.trying c.count-y-end.result c.count-y-end.ensures (omega arith)
