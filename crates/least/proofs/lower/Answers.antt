-- A turn moves the item down, until it can go no lower. Assumes nothing.
use Rattle.std.proofs.Common.{rules}
use Rattle.least.proofs.Shifts.{lowering_start, lowering_shiftable, lowering_none, lowering_stuck, lowering_less, lowering_turn}
use Rattle.least.proofs.lower.Goals as goal

pub loop-x-init : goal.loop-x-init
loop-x-init c = lowering_start c.requires (search rules) c.minus-all.ensures c.slot_of-s.ensures

pub returns-then-cand-eq0 : goal.returns-then-cand-eq0
returns-then-cand-eq0 c = lowering_none c.loop-x.invariant c.low.ensures c.if-cand-eq0.true

pub shift-requires : goal.shift-requires
shift-requires c = lowering_shiftable c.loop-x.invariant c.low.ensures

pub returns-in_default : goal.returns-in_default
returns-in_default c =
    rw c.in_default.ensures.same (lowering_stuck c.loop-x.invariant c.low.ensures c.in_default.ensures.none)

pub loop-x-smaller : goal.loop-x-smaller
loop-x-smaller c = lowering_less c.loop-x.invariant c.low.ensures c.in-Some.ensures.found

pub loop-x-preserved : goal.loop-x-preserved
loop-x-preserved c = lowering_turn c.loop-x.invariant c.low.ensures c.in-Some.ensures.found
