use Rattle.std.proofs.Common.{rules}
use Rattle.tarungkis.proofs.CallLaws.{note_fits}
use Rattle.tarungkis.proofs.tarungkis_note.Goals as goal

pub of_noted-requires : goal.of_noted-requires
of_noted-requires c = search (note_fits, rules)
