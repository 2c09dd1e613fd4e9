-- Item x leaves its slot, and the search finds it another. Assumes nothing.
use Rattle.least.proofs.Shifts.{shift_displaceable, shift_found, shift_stuck}
use Rattle.least.proofs.shift.Goals as goal

pub displace-requires : goal.displace-requires
displace-requires c = shift_displaceable c.requires c.slot_of-s.ensures c.with-m.ensures

pub returns-in_default-clause-none : goal.returns-in_default-clause-none
returns-in_default-clause-none c = shift_stuck c.requires c.slot_of-s.ensures c.with-m.ensures c.in_default.ensures.none

pub returns-clause-found : goal.returns-clause-found
returns-clause-found c = shift_found c.requires c.slot_of-s.ensures c.with-m.ensures c.in-Ok.ensures.found
