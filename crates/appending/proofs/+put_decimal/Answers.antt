use Rattle.std.proofs.Common.{rules}
use Rattle.appending.proofs.AppendLaws.{digit_room, first_digit, higher_room, next_digit_room, next_digit}
use Rattle.appending.proofs.+put_decimal.Goals as goal

pub put_byte-requires : goal.put_byte-requires
put_byte-requires t c = search (digit_room, rules)

pub returns-then-n-lt10 : goal.returns-then-n-lt10
returns-then-n-lt10 t c = search (first_digit, rules)

pub put_decimal-end-requires : goal.put_decimal-end-requires
put_decimal-end-requires t c = search (higher_room, rules)

pub put_byte-requires-2 : goal.put_byte-requires-2
put_byte-requires-2 t c = search (next_digit_room, rules)

pub returns : goal.returns
returns t c = search (next_digit, rules)
