use Rattle.std.proofs.Common.{rules}
use Rattle.wording.proofs.LineLaws.{action_short, action_kind, action_number, action_good}
use Rattle.wording.proofs.read_action.Goals as goal

pub returns-then-end-s : goal.returns-then-end-s
returns-then-end-s c = search (action_short, rules)

pub returns-in_err-kind : goal.returns-in_err-kind
returns-in_err-kind c = search (action_kind, rules)

pub returns-in_err-object : goal.returns-in_err-object
returns-in_err-object c = search (action_number, rules)

pub returns : goal.returns
returns c = search (action_good, rules)
