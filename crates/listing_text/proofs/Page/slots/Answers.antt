-- The slots of the items before j's are written. Assumes nothing.
use Rattle.listing_text.proofs.LineParts.{slots_done, slot-fits, slots-more}
use Rattle.listing_text.proofs.Page.slots.Goals as goal

pub slot-requires : goal.slot-requires
slot-requires c = slot-fits c.loop-j.invariant c.loop-j-test.true

pub loop-j-preserved : goal.loop-j-preserved
loop-j-preserved c = slots-more c.loop-j.invariant c.loop-j-test.true c.slot.ensures

pub returns : goal.returns
returns c = slots_done c.loop-j.invariant c.loop-j-test.false
