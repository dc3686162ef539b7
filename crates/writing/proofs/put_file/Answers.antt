use Rattle.std.proofs.Common.{rules}
use Rattle.writing.proofs.PutLaws.{preamble-room, count_fits, events-room, trailer-room, file_put}
use Rattle.writing.proofs.put_file.Goals as goal

pub put_word-events-requires : goal.put_word-events-requires
put_word-events-requires c = search (preamble-room, rules)

pub put_events-trailer-requires : goal.put_events-trailer-requires
put_events-trailer-requires c = search (events-room, rules)

pub overflow_cast-threads : goal.overflow_cast-threads
overflow_cast-threads c = search (count_fits, rules)

pub put_trailer-requires : goal.put_trailer-requires
put_trailer-requires c = search (trailer-room, rules)

pub returns : goal.returns
returns c = search file_put
