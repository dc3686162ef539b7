use Rattle.std.proofs.Common.{rules}
use Rattle.showing.proofs.PutLaws.{feed_put}
use Rattle.showing.proofs.put_note_byte.Goals as goal

pub returns : goal.returns
returns c = search (feed_put, rules)
