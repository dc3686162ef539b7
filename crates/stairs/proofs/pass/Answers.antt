use Rattle.std.proofs.Common.{rules}
use Rattle.stairs.proofs.PassLaws.{passing_start, ready_moved, turn_valid, turn_place, turn_upto, turn_begun, turn_pull, passing_again, passing_turn, passing_none, passed}
use Rattle.stairs.proofs.pass.Goals as goal
use Rattle.stairs.proofs.pass.Goals.{in-Some+else-n-most, in_default}

pub loop-j-init : goal.loop-j-init
loop-j-init c = search (passing_start, rules)

pub meet-n-requires : goal.meet-n-requires
meet-n-requires c = search (turn_place, rules)

pub advance-i-requires : goal.advance-i-requires
advance-i-requires c = (search ready_moved, search turn_upto)

pub begun-requires : goal.begun-requires
begun-requires c = search (turn_valid, rules)

pub returns : goal.returns
returns c = search (passed, rules)

pub asked-most-requires : goal.asked-most-requires
asked-most-requires c = turn_begun c.requires c.loop-j.invariant c.loop-j-test.true _ c.from-k.ensures c.meet-n.ensures c.in-Some.ensures

pub loop-j-preserved-then-n-most : goal.loop-j-preserved-then-n-most
loop-j-preserved-then-n-most c =
    passing_again c.requires c.loop-j.invariant c.loop-j-test.true _
    c.from-k.ensures c.meet-n.ensures c.in-Some.ensures (search rules) c.advance-i.ensures c.asked-most.ensures c.if-n-most.true (search rules)

pub pull-raised-requires : goal.pull-raised-requires
pull-raised-requires c =
    turn_pull c.requires c.loop-j.invariant c.loop-j-test.true _
    c.from-k.ensures c.meet-n.ensures c.in-Some.ensures

pub loop-j-preserved : goal.loop-j-preserved
loop-j-preserved c =
    elim c.match-begun.branch [
      | in-Some+else-n-most w ↦
          rw (w.need-is, w.raised-is)
          (passing_turn c.requires c.loop-j.invariant c.loop-j-test.true _
          c.from-k.ensures c.meet-n.ensures w.in-Some.ensures (search rules) c.advance-i.ensures w.asked-most.ensures w.pull-raised.ensures)
      | in_default w ↦
          rw (w.need-is, w.raised-is)
          (passing_none c.requires c.loop-j.invariant c.loop-j-test.true _
          c.from-k.ensures c.meet-n.ensures w.in_default.ensures (search rules) c.advance-i.ensures)
    ]
