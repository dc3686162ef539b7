use native.Mathlib.Omega.{arith}
use mathlib.Core.Path.{sym, subst}
use Rattle.model.specs.Trace.{Trace}
use Rattle.opening.proofs.PassLaws.{ahead_start, ahead_turn, ahead_same, ahead_more, ahead_end, ahead_last}
use Rattle.opening.proofs.add.Goals as goal

pub loop-k-init : goal.loop-k-init
loop-k-init g c = (ahead_start g.met.P.Pass.is_link c.requires.0 c.count-n.ensures c.requires.1, c.requires.2)

pub put-requires : goal.put-requires
put-requires g c =
    let i = c.loop-k.invariant in
    (ahead_turn i.0 c.loop-k-test.true, subst (λ (t : Trace). g.P.Pass.uses t c.loop-k.pass) (sym (ahead_same i.0)) i.1)

pub loop-k-preserved : goal.loop-k-preserved
loop-k-preserved g c =
    let i = c.loop-k.invariant in
    (ahead_more i.0 c.loop-k-test.true c.put.ensures.0, subst (λ (t : Trace). g.P.Pass.uses t c.put.new.self) (ahead_same i.0) c.put.ensures.1)

pub returns : goal.returns
returns g c =
    let i = c.loop-k.invariant in
    (ahead_end i.0 c.loop-k-test.false, ahead_last i.0 c.loop-k-test.false (c.loop-k.auto.k-end (omega arith)))
