use Rattle.std.proofs.Common.{rules, arith}
use Rattle.cone.proofs.SplitLaws.{others_start, others_valid, others_end, others_fit, put_room, put_fits, put_not, put_one}
use Rattle.cone.proofs.others.Goals as goal
use Rattle.cone.proofs.others.Goals.{then-is_other, else-is_other}

pub overflow_add-k-end : goal.overflow_add-k-end
overflow_add-k-end c = search (others_fit, rules)

pub loop-k-init : goal.loop-k-init
loop-k-init c = search (others_start, rules)

pub is_other-requires : goal.is_other-requires
is_other-requires c = search (others_valid, rules)

pub overflow_cast-out : goal.overflow_cast-out
overflow_cast-out c = put_fits c.loop-k.invariant (others_valid c.requires c.highest-k-end.ensures c.loop-k.invariant (omega arith)) c.args.table.now.links.good

pub bounds-out-r : goal.bounds-out-r
bounds-out-r c = put_room c.loop-k.invariant (others_valid c.requires c.highest-k-end.ensures c.loop-k.invariant (omega arith))

pub loop-k-preserved : goal.loop-k-preserved
loop-k-preserved c =
    let v = others_valid c.requires c.highest-k-end.ensures c.loop-k.invariant (omega arith) in
    elim c.if-is_other.branch [
      | then-is_other w ↦ rw (w.r-is, w.out-is) (put_one c.loop-k.invariant v _ c.is_other.ensures w.if-is_other.true)
      | else-is_other w ↦ rw (w.r-is, w.out-is) (put_not c.loop-k.invariant v _ c.is_other.ensures w.if-is_other.false)
    ]

pub returns : goal.returns
returns c = search (others_end, rules)
