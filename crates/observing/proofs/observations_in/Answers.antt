use Rattle.observing.proofs.EntriesLaws.{list_short, list_given}
use Rattle.observing.proofs.observations_in.Goals as goal

pub returns-then-list-n : goal.returns-then-list-n
returns-then-list-n c = search list_short

pub returns : goal.returns
returns c = search list_given
