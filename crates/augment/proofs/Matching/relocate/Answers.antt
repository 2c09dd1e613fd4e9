-- The slot is released, and its holder takes the hole. Assumes nothing.
use Rattle.augment.proofs.Searches.{relocate_takeable, relocated}
use Rattle.augment.proofs.Matching.relocate.Goals as goal

pub take-requires : goal.take-requires
take-requires c = rw (c.with-self.ensures, c.holder-y.ensures) (relocate_takeable c.requires c.mover-k.ensures)

pub returns : goal.returns
returns c = relocated c.requires c.mover-k.ensures (rw (c.with-self.ensures, c.holder-y.ensures) at c.take.ensures)
