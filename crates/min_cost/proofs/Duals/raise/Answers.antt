-- A turn makes one item's dual and word. Assumes nothing.
use Rattle.min_cost.proofs.Levels.{raising_turn}
use Rattle.min_cost.proofs.Duals.raise.Goals as goal

pub loop-i-preserved : goal.loop-i-preserved
loop-i-preserved c = record {
  raising = raising_turn c.loop-i.invariant.raising c.loop-i-test.true c.bit.ensures c.select.ensures;
  same = c.loop-i.invariant.same;
}
