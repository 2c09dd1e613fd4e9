-- The item is pinned, or leaves its slot for one above, a free one if there is one, and goes down among these. Assumes nothing.
use Rattle.std.proofs.Common.{◌<◌, ◌^◌, arith, rules}
use Rattle.std.specs.Int.Bits.{and_le_l}
use Rattle.augment.proofs.Vacants.{hole}
use Rattle.least.proofs.Shifts.{lowered_after}
use Rattle.next.proofs.ItemAdvances.{Rising, rising_pinned, rising_start, rising_vacant, rising_near, rising_stuck, rising_none, rising_shiftable}
use Rattle.next.proofs.ItemAdvances.{rising_lowerable, rising_lowered}
use Rattle.next.proofs.advance_item.Goals as goal
use Rattle.next.proofs.advance_item.Goals.{After-minus-cand}

-- the slots above the item's own
rising : (c : After-minus-cand)
    → Rising c.args.opens.now c.args.m.now.owner c.args.m.now.slot c.args.m.now.free c.args.x c.args.fixed c.vacant-hit.result c.minus-may.result
rising c = rising_start c.requires c.slot_of-s.ensures c.vacant-hit.ensures c.low.ensures c.minus-may.ensures

pub returns-then-ways_out-eq0-clause-none : goal.returns-then-ways_out-eq0-clause-none
returns-then-ways_out-eq0-clause-none c =
    rising_pinned c.requires c.slot_of-s.ensures c.vacant-hit.ensures (search rules) (rw c.ways_out.ensures at c.if-ways_out-eq0.true)

pub returns-then-cand-eq0-clause-none : goal.returns-then-cand-eq0-clause-none
returns-then-cand-eq0-clause-none c =
    rising_none (rising (goal.at.returns-then-cand-eq0-clause-none c).After-minus-cand) c.ranges.fixed.fits c.minus-cand.ensures c.if-cand-eq0.true

pub lower_from-requires : goal.lower_from-requires
lower_from-requires c =
    let fits : c.vacant-hit.result < 2 ^ 64 = search rules in
    let R = rising (goal.at.lower_from-requires c).After-minus-cand in
    rising_near R
    (hole c.requires.before.complete.table (rising_vacant R) (omega (arith, fits, and_le_l c.vacant-hit.result c.minus-may.result))
    c.if-near-ne0.true c.lowest.ensures)

pub shift-requires : goal.shift-requires
shift-requires c =
    rising_shiftable (rising (goal.at.shift-requires c).After-minus-cand) c.ranges.fixed.fits c.minus-cand.ensures c.if-near-ne0.false

pub returns-in_err-shift-clause-none : goal.returns-in_err-shift-clause-none
returns-in_err-shift-clause-none c =
    let r = rising_stuck (rising (goal.at.returns-in_err-shift-clause-none c).After-minus-cand) c.ranges.fixed.fits c.minus-cand.ensures
    c.in_err-shift.ensures.none in
    search rules

pub lower-requires : goal.lower-requires
lower-requires c =
    rising_lowerable (rising (goal.at.lower-requires c).After-minus-cand) c.ranges.fixed.fits c.minus-cand.ensures c.if-near-ne0.false
    c.in_ok-shift.ensures.found

pub returns-clause-found : goal.returns-clause-found
returns-clause-found c =
    rising_lowered (rising (goal.at.returns-clause-found c).After-minus-cand) (lowered_after c.in_ok-shift.ensures.found.0 c.lower.ensures)
