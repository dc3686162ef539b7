use Rattle.std.proofs.Common.{arith}
use Rattle.appending.proofs.AppendLaws.{appends_word}
use Rattle.appending.proofs.put_word.Goals as goal

pub returns : goal.returns
returns c = appends_word _ _ _ _ _ c.copy_from_slice.ensures.after (omega arith) (omega arith)
