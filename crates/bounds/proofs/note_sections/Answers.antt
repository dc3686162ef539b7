use Rattle.std.proofs.Common.{rules}
use Rattle.bounds.proofs.OpenLaws.{noting_start, noting_valid, noting_more, noting_end}
use Rattle.bounds.proofs.note_sections.Goals as goal

pub loop-v-init : goal.loop-v-init
loop-v-init c = search (noting_start, rules)

pub note_section-requires : goal.note_section-requires
note_section-requires c = search (noting_valid, rules)

pub loop-v-preserved : goal.loop-v-preserved
loop-v-preserved c = search (noting_more, rules)

pub returns : goal.returns
returns c = search (noting_end, rules)
