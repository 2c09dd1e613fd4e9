-- Each level is made. Assumes nothing.
use Rattle.std.proofs.Common.{arith}
use Rattle.min_cost.proofs.Levels.{lifting_end}
use Rattle.min_cost.proofs.Duals.lift.Goals as goal

pub returns-clause-slots : goal.returns-clause-slots
returns-clause-slots c = lifting_end c.ranges.dead.fits c.loop-word.invariant (omega arith)
