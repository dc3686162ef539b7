use Rattle.std.proofs.Common.{rules, ◌≡◌, length}
use Rattle.showing.proofs.PutLaws.{notes_none, notes_first, notes_on, notes_put}
use Rattle.showing.proofs.put_notes.Goals as goal

pub returns-then-is_empty : goal.returns-then-is_empty
returns-then-is_empty c = search (notes_none, rules)

pub loop-b-init : goal.loop-b-init
loop-b-init c = search (notes_first, rules)

pub loop-b-preserved : goal.loop-b-preserved
loop-b-preserved c = search (notes_on, rules)

pub returns : goal.returns
returns c = let some : length c.args.preamble.now ≡ 0 → ⊥ = search rules in search (notes_put, some, rules)
