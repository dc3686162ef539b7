use Rattle.std.proofs.Common.{rules}
use Rattle.input.proofs.ReadLaws.{read_on}
use Rattle.input.proofs.read.Goals as goal

pub loop-n-preserved : goal.loop-n-preserved
loop-n-preserved g c =
    let i = c.loop-n.invariant in
    let e = c.in_ok-more.ensures in
    (search rules, search rules, read_on _ _ _ _ _ _ _ _ i.1 e.bound.0 i.2 e.bytes.0)
