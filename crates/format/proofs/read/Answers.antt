use Rattle.std.proofs.Common.{rules}
use Rattle.std.proofs.lemmas.Bool.{leb-true}
use Rattle.format.specs.Layout.{count}
use Rattle.format.proofs.LayoutExact.{sized_true, marked_true}
use Rattle.format.proofs.read.Goals as goal

pub read_distance-requires : goal.read_distance-requires
unfolding count
read_distance-requires c = record { sized = sized_true _ cc; marked = marked_true _ cc; number = search rules; few = leb-true _ _ cc }
