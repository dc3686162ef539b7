use Rattle.std.proofs.Common.{rules}
use Rattle.showing.proofs.ShowLaws.{start_within, events_lent, text_put}
use Rattle.model.proofs.Lists.{front_length}
use Rattle.showing.proofs.put_text.Goals as goal

pub slice_bounds-put_notes-end : goal.slice_bounds-put_notes-end
slice_bounds-put_notes-end c = search (front_length, start_within, rules)

pub put_events-requires : goal.put_events-requires
put_events-requires c = search (events_lent, rules)

pub returns : goal.returns
returns c = search (text_put, rules)
