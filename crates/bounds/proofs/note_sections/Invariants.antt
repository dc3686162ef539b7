use Rattle.bounds.proofs.OpenLaws.{Noting}
use Rattle.bounds.proofs.note_sections.Given as goal

abbrev pub invariant-loop-v : goal.invariant-loop-v
invariant-loop-v l = Noting l.table l.m l.p l.q l.ends l.v-index l.last
