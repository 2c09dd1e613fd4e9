-- A turn gives the lowest item that is left a free slot, or one whose holder moves on, or adds it to the exposed ones. Assumes nothing.
use Rattle.std.proofs.Common.{rules, arith}
use Rattle.augment.proofs.Vacants.{unheld-none, hole}
use Rattle.maximum.proofs.Filling.{filling_start, filling_end, filling_turn}
use Rattle.maximum.proofs.fill.Goals as goal

pub loop-x-init : goal.loop-x-init
loop-x-init c = rw c.into_iter-x-iterator.ensures.into_iter_gives (filling_start c.ranges.wanting.fits c.requires)

pub vacant-hit-requires : goal.vacant-hit-requires
vacant-hit-requires c = (c.loop-x.invariant.table, (filling_turn c.loop-x.invariant c.in-Some.ensures.steps).item)

pub take-requires : goal.take-requires
take-requires c =
    (filling_turn c.loop-x.invariant c.in-Some.ensures.steps).takeable
    (hole c.loop-x.invariant.table c.vacant-hit.ensures (search rules) c.if-hit-ne0.true c.lowest.ensures)

pub loop-x-preserved-then-hit-ne0 : goal.loop-x-preserved-then-hit-ne0
loop-x-preserved-then-hit-ne0 c =
    (filling_turn c.loop-x.invariant c.in-Some.ensures.steps).taken
    (hole c.loop-x.invariant.table c.vacant-hit.ensures (search rules) c.if-hit-ne0.true c.lowest.ensures)
    c.take.ensures

pub offset_bounds-opens-x : goal.offset_bounds-opens-x
offset_bounds-opens-x c = omega (arith, (filling_turn c.loop-x.invariant c.in-Some.ensures.steps).below)

pub bounds-opens-x : goal.bounds-opens-x
bounds-opens-x c = (filling_turn c.loop-x.invariant c.in-Some.ensures.steps).item

pub with-exposed-requires : goal.with-exposed-requires
with-exposed-requires c = (filling_turn c.loop-x.invariant c.in-Some.ensures.steps).below

pub loop-x-preserved-then-cand-eq0 : goal.loop-x-preserved-then-cand-eq0
loop-x-preserved-then-cand-eq0 c =
    (filling_turn c.loop-x.invariant c.in-Some.ensures.steps).none c.minus-cand.ensures c.if-cand-eq0.true c.with-exposed.ensures

pub displace-requires : goal.displace-requires
displace-requires c =
    (filling_turn c.loop-x.invariant c.in-Some.ensures.steps).displaceable
    c.minus-cand.ensures
    (unheld-none c.loop-x.invariant.table c.vacant-hit.ensures c.if-hit-ne0.false)

pub with-exposed-requires-in-Err : goal.with-exposed-requires-in-Err
with-exposed-requires-in-Err c = (filling_turn c.loop-x.invariant c.in-Some.ensures.steps).below

pub loop-x-preserved-in-Err : goal.loop-x-preserved-in-Err
loop-x-preserved-in-Err c =
    rw c.in-Err.ensures.same
    ((filling_turn c.loop-x.invariant c.in-Some.ensures.steps).failed
    c.minus-cand.ensures
    (search rules)
    c.with-exposed-in-Err.ensures
    c.in-Err.ensures.none)

pub loop-x-preserved : goal.loop-x-preserved
loop-x-preserved c = (filling_turn c.loop-x.invariant c.in-Some.ensures.steps).found c.in_default.ensures.found

pub returns : goal.returns
returns c = filling_end c.loop-x.invariant c.in-None.ensures.steps.0
