use Rattle.std.proofs.Common.{rules}
use Rattle.tarungkis.proofs.CallLaws.{written_fits}
use Rattle.tarungkis.proofs.tarungkis_write_file.Goals as goal

pub of_written-requires : goal.of_written-requires
of_written-requires c = search (written_fits, rules)
