use Rattle.std.proofs.Common.{rules}
use Rattle.stairs.proofs.ClimbLaws.{merging_start, merging_stair, merging_in, merging_left, merging_moved, merging_others, merging_end}
use Rattle.stairs.proofs.climb.Goals as goal
use Rattle.stairs.proofs.climb.Goals.{then-moved_next, else-moved_next}

pub loop-k-init : goal.loop-k-init
loop-k-init c = search (merging_start, rules)

pub moved_next-requires : goal.moved_next-requires
moved_next-requires c = search (merging_stair, rules)

pub bounds-p-i : goal.bounds-p-i
bounds-p-i c = merging_in c.loop-k.invariant.0 _ c.loop-k.invariant.1 c.moved_next.ensures c.if-moved_next.true

pub bounds-q-j : goal.bounds-q-j
bounds-q-j c = merging_left c.loop-k.invariant.0 _ c.loop-k.invariant.1 c.moved_next.ensures c.if-moved_next.false c.loop-k-test.true

pub loop-k-preserved : goal.loop-k-preserved
loop-k-preserved c =
    elim c.if-moved_next.branch [
      | then-moved_next w ↦ rw (w.i-is, w.j-is, w.out-is) (merging_moved c.loop-k.invariant.0 _ c.loop-k.invariant.1 c.moved_next.ensures w.if-moved_next.true)
      | else-moved_next w ↦ rw (w.i-is, w.j-is, w.out-is) (merging_others c.loop-k.invariant.0 _ c.loop-k.invariant.1 c.moved_next.ensures w.if-moved_next.false c.loop-k-test.true)
    ]

pub returns : goal.returns
returns c = merging_end c.loop-k.invariant.0 _ c.loop-k.invariant.1 c.requires c.loop-k-test.false
