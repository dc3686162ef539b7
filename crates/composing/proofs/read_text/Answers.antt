use Rattle.std.proofs.Common.{rules}
use Rattle.composing.proofs.TextLaws.{text_good, text_bad, stop_there}
use Rattle.composing.proofs.read_text.Goals as goal

pub bad_line-requires : goal.bad_line-requires
bad_line-requires c = search (stop_there, rules)

pub returns-in-Some : goal.returns-in-Some
returns-in-Some c = search (text_bad, rules)

pub returns : goal.returns
returns c = search (text_good, rules)
