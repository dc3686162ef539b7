use Rattle.writing.proofs.PutLaws.{trailer_put}
use Rattle.writing.proofs.put_trailer.Goals as goal

pub returns : goal.returns
returns c = search trailer_put
