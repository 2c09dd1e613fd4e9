-- What falls is the number of slots that are not seen. Assumes nothing.
use Rattle.std.specs.Prelude.{◌-◌}
use Rattle.std.specs.Int.Count.{ones}
use Rattle.augment.proofs.Matching.+vacate.Given as goal

abbrev pub decreases-vacate : goal.decreases-vacate
decreases-vacate l = 64 - ones l.seen
