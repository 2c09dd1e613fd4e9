-- In a table the free slots are those that no item holds. Assumes nothing.
use Rattle.augment.proofs.Vacants.{unheld-and}
use Rattle.augment.proofs.Matching.unheld.Goals as goal

pub returns : goal.returns
returns c = unheld-and c.requires _
