use Rattle.std.proofs.Common.{rules}
use Rattle.compose.proofs.ComposeLaws.{parts_refused, parts_bytes}
use Rattle.compose.proofs.write_parts.Goals as goal

pub returns-in-Ok : goal.returns-in-Ok
returns-in-Ok c = search (parts_bytes, rules)

pub returns-in-Err : goal.returns-in-Err
returns-in-Err c = search (parts_refused, rules)
