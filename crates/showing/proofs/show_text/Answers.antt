use Rattle.std.proofs.Common.{rules}
use Rattle.showing.proofs.ShowLaws.{show_refused, show_short, text_lent, show_good}
use Rattle.showing.proofs.show_text.Goals as goal

pub returns-in_err-t : goal.returns-in_err-t
returns-in_err-t c = search (show_refused, rules)

pub returns-then-text-lt-TEXT_BYTES : goal.returns-then-text-lt-TEXT_BYTES
returns-then-text-lt-TEXT_BYTES c = search (show_short, rules)

pub put_text-requires : goal.put_text-requires
put_text-requires c = text_lent _ _ _ c.judge.ensures _ c.in_ok-t.was c.if-text-lt-TEXT_BYTES.false

pub returns : goal.returns
returns c = search (show_good, rules)
