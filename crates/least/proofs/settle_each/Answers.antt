-- A turn gives one item more its least slot. Assumes nothing.
use Rattle.least.proofs.Settles.{settling_turn}
use Rattle.least.proofs.settle_each.Goals as goal

pub loop-i-preserved : goal.loop-i-preserved
loop-i-preserved c = settling_turn c.loop-i.invariant c.loop-i-test.true c.minimize-k.ensures c.with-fixed.ensures
