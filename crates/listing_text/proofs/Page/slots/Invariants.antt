-- The slots of the items before j's are written. Assumes nothing.
use Rattle.listing_text.proofs.LineParts.{SlotsBegun}
use Rattle.listing_text.proofs.Page.slots.Given as goal

abbrev pub invariant-loop-j : goal.invariant-loop-j
invariant-loop-j l = SlotsBegun l.plan l.initial.self l.self l.j-index
