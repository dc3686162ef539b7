use Rattle.std.proofs.Common.{rules, ◌≡◌, Some, ap, ◌∙◌}
use Rattle.composing.proofs.TextLaws.{events-start, events-all, events_bad, events_note, events_on}
use Rattle.wording.specs.declared.Line.TheVariants.{Note}
use Rattle.composing.proofs.read_events.Goals as goal

pub loop-at-init : goal.loop-at-init
loop-at-init c = search (events-start, rules)

pub returns-in_default : goal.returns-in_default
returns-in_default c = let note : c.in_default.field-0 ≡ Note = search rules in let is : c.read_line.result ≡ Some Note = c.in_default.is ∙ ap Some note in search (events_note, is, rules)

pub returns-in_default-2 : goal.returns-in_default-2
returns-in_default-2 c = search (events_bad, rules)

pub loop-at-preserved : goal.loop-at-preserved
loop-at-preserved c = search (events_on, rules)

pub returns : goal.returns
returns c = search (events-all, rules)
