-- An item without a lower slot to try has its least slot, and so has one that nothing can move; another goes to the lowest free slot below
-- its own, if there is one, and is lowered. Assumes nothing.
use Rattle.std.proofs.Common.{◌<◌, ◌^◌, arith, rules}
use Rattle.std.specs.Int.Bits.{and_le_l}
use Rattle.augment.proofs.Vacants.{unheld_part, hole}
use Rattle.least.proofs.Settles.{below-kept, minimize_fixed, minimize_none, minimize_near, minimize_pinned}
use Rattle.least.proofs.minimize.Goals as goal

pub returns-then-below-eq0 : goal.returns-then-below-eq0
returns-then-below-eq0 c =
    below-kept (minimize_fixed c.requires c.slot_of-s.ensures) c.ranges.fixed.fits c.slot_of-s.ensures c.below.ensures c.if-below-eq0.true

pub returns-then-ways_out-eq0 : goal.returns-then-ways_out-eq0
returns-then-ways_out-eq0 c =
    minimize_pinned c.requires c.slot_of-s.ensures c.vacant-hit.ensures (search rules) (rw c.ways_out.ensures at c.if-ways_out-eq0.true)

pub lower_from-requires : goal.lower_from-requires
lower_from-requires c =
    let fits : c.vacant-hit.result < 2 ^ 64 = search rules in
    minimize_near c.requires c.slot_of-s.ensures c.vacant-hit.ensures c.low.ensures
    (hole c.requires.before.complete.table (unheld_part c.low.result c.vacant-hit.ensures)
    (omega (arith, fits, and_le_l c.vacant-hit.result c.low.result)) c.if-near-ne0.true c.lowest.ensures)

pub lower-requires : goal.lower-requires
lower-requires c = minimize_none c.requires c.slot_of-s.ensures c.vacant-hit.ensures c.low.ensures c.if-near-ne0.false
