-- Item x leaves its slot for the free one, and is lowered. Assumes nothing.
use Rattle.least.proofs.Shifts.{near_takeable, near_lowerable}
use Rattle.least.proofs.lower_from.Goals as goal

pub take-requires : goal.take-requires
take-requires c = near_takeable c.requires c.slot_of-s.ensures c.with-m.ensures

pub lower-requires : goal.lower-requires
lower-requires c = near_lowerable c.requires c.slot_of-s.ensures c.with-m.ensures c.take.ensures
