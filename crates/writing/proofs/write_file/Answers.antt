use Rattle.writing.proofs.WriteLaws.{lists_uneven, file_long, fitting, handed_on}
use Rattle.writing.proofs.write_file.Goals as goal

pub returns-then-not-even : goal.returns-then-not-even
returns-then-not-even c = search lists_uneven

pub returns-then-not-fits : goal.returns-then-not-fits
returns-then-not-fits c = search file_long

pub write_fitting-requires : goal.write_fitting-requires
write_fitting-requires c = search fitting

pub returns : goal.returns
returns c = search handed_on
