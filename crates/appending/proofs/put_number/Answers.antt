use Rattle.std.proofs.Common.{rules}
use Rattle.appending.proofs.AppendLaws.{number_room, number_put}
use Rattle.appending.proofs.put_number.Goals as goal

pub put_decimal-requires : goal.put_decimal-requires
put_decimal-requires c = search (number_room, rules)

pub returns : goal.returns
returns c = search (number_put, rules)
