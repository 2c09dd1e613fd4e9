-- The words of the items passed are gathered from the last item down. Assumes nothing.
use Rattle.std.proofs.Common.{arith}
use Rattle.least.proofs.Settles.{gathered_turn}
use Rattle.least.proofs.later.Goals as goal

pub loop-i-preserved : goal.loop-i-preserved
loop-i-preserved c = gathered_turn c.loop-i.invariant (omega arith)
