-- A turn passes an item that keeps its slot. Assumes nothing.
use Rattle.least.proofs.Settles.{settling_turn, settling_keeps}
use Rattle.least.proofs.settle.Goals as goal

pub loop-i-preserved : goal.loop-i-preserved
loop-i-preserved c =
    let I = c.loop-i.invariant in
    settling_turn I c.loop-i-test.true (settling_keeps I c.loop-i-test.true c.slot_of-s.ensures c.below.ensures c.if-below-ne0.false)
    c.with-fixed.ensures
