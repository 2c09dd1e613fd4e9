-- Both tables and the free slots are written. Assumes nothing.
use Rattle.augment.proofs.Moves.{taken}
use Rattle.augment.proofs.Matching.take.Goals as goal

pub returns : goal.returns
returns c = rw c.without-self.ensures (taken c.requires)
