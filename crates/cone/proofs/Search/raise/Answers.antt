use Rattle.std.proofs.Common.{rules}
use native.Mathlib.Omega.{arith}
use Rattle.cone.proofs.RaiseLaws.{raise_none, raise_valid, raise_under, raise_reached, raise_fits, raise_up}
use Rattle.cone.proofs.Search.raise.Goals as goal

pub returns-then-k-lt1 : goal.returns-then-k-lt1
returns-then-k-lt1 c = search (raise_none, rules)

pub thread_place-c-requires : goal.thread_place-c-requires
thread_place-c-requires c = search (raise_valid, rules)

pub returns-then-k-place : goal.returns-then-k-place
returns-then-k-place c = search (raise_under, rules)

pub returns-then-place-k : goal.returns-then-place-k
returns-then-place-k c = search (raise_reached, rules)

pub overflow_cast-tops : goal.overflow_cast-tops
overflow_cast-tops c = search raise_fits

pub returns : goal.returns
returns c = raise_up {s = c.args.self.table.now} (search rules) (search rules) (search rules) _ (search rules) (search rules) (omega (arith, c.place.ensures)) (omega (arith, c.place-2.ensures))
