use Rattle.std.proofs.Common.{length, ◌≤◌, ◌≡◌}
use Rattle.text.proofs.numbers.Given as goal

abbrev pub invariant-loop-word : goal.invariant-loop-word
invariant-loop-word l = (length l.list ≡ length l.initial.list) × (l.n ≤ length l.list)
