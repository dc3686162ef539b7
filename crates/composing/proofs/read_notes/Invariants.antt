use Prim.Native.Nat.{◌-◌}
use lib.ListN.{length}
use Rattle.composing.specs.Parts.{NotesRead}
use Rattle.composing.proofs.read_notes.Given as goal

abbrev pub invariant-loop-at : goal.invariant-loop-at
invariant-loop-at l = NotesRead l.text l.initial.preamble l.preamble l.lines l.bytes l.at

abbrev pub decreases-loop-at : goal.decreases-loop-at
decreases-loop-at l = length l.text - l.at
