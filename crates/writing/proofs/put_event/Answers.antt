use Rattle.writing.proofs.PutLaws.{event_put}
use Rattle.writing.proofs.put_event.Goals as goal

pub returns : goal.returns
returns c = search event_put
