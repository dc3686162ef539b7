use Rattle.std.proofs.Common.{rules}
use Rattle.composing.proofs.TextLaws.{next_note}
use Rattle.composing.proofs.put_note.Goals as goal

pub returns : goal.returns
returns c = search (next_note, rules)
