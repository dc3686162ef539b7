use Rattle.showing.proofs.PutLaws.{NotesLaid}
use Rattle.showing.proofs.put_notes.Given as goal

abbrev pub invariant-loop-b : goal.invariant-loop-b
invariant-loop-b l = NotesLaid l.preamble l.initial.end l.initial.out l.out l.end l.b-index
