use Rattle.std.proofs.Common.{rules}
use Rattle.checking.proofs.PassLaws.{fork_bounded, waits_bounded, fork_ahead, ready_fork, ready_join}
use Rattle.checking.proofs.Passed.is_ready.Goals as goal

pub has_passed-requires : goal.has_passed-requires
has_passed-requires c = search (fork_bounded, rules)

pub returns-then-not-has_passed : goal.returns-then-not-has_passed
returns-then-not-has_passed c = search (fork_ahead, rules)

pub returns-then-ne : goal.returns-then-ne
returns-then-ne c = search (ready_fork, rules)

pub has_passed-requires-2 : goal.has_passed-requires-2
has_passed-requires-2 c = search (waits_bounded, rules)

pub returns : goal.returns
returns c = search (ready_join, rules)
