-- The position, ":", the slots, then the callouts. Assumes nothing.
use Rattle.listing_text.proofs.Begun.{fits_last, last}
use Rattle.listing_text.proofs.LineParts.{position_fits, colon_fits, all_slots_fit, callouts_left}
use Rattle.listing_text.proofs.Page.plan_line.Goals as goal

pub number-requires : goal.number-requires
number-requires c = position_fits c.args.callouts.now c.args.k c.args.plan c.args.self.now c.requires.1

pub byte-requires : goal.byte-requires
byte-requires c = colon_fits c.args.callouts.now c.args.k c.args.plan c.args.self.now c.requires.1 c.number.ensures

pub slots-requires : goal.slots-requires
slots-requires c = all_slots_fit c.args.callouts.now c.args.k c.args.plan c.args.self.now c.requires.1 c.number.ensures c.byte.ensures

pub line-requires : goal.line-requires
line-requires c =
    let left = callouts_left c.args.callouts.now c.args.k c.args.plan c.args.self.now c.requires.1 c.number.ensures c.byte.ensures c.slots.ensures in
    rw c.callouts_of.ensures (fits_last _ left)

pub returns : goal.returns
returns c =
    let left = callouts_left c.args.callouts.now c.args.k c.args.plan c.args.self.now c.requires.1 c.number.ensures c.byte.ensures c.slots.ensures in
    last _ left (rw c.callouts_of.ensures at c.line.ensures)
