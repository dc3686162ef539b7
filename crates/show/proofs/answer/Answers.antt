use Rattle.std.proofs.Common.{rules, sym, length-take-le}
use Rattle.showing.proofs.ShowExact.{text_within}
use Rattle.show.proofs.answer.Goals as goal

pub slice_bounds-text-end : goal.slice_bounds-text-end
slice_bounds-text-end g c = search (text_within, rules)

pub slice_bounds-put-end : goal.slice_bounds-put-end
slice_bounds-put-end g c = sym (length-take-le c.in-Ok.n c.show_text.new.text (search (text_within, rules)))
