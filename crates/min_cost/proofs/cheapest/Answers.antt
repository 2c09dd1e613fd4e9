-- Each round raises the duals, until no item is exposed. Assumes nothing.
use Rattle.std.proofs.Common.{arith, replicate}
use lib.Seq.{length-take-le}
use Rattle.least.proofs.Firsts.{filled_settleable}
use Rattle.min_cost.proofs.DualBounds.{settled_cheapest}
use Rattle.min_cost.proofs.Raises.{ready_raisable, ready_rounds, start_ready, start_fillable, number-le, number-less}
use Rattle.min_cost.proofs.Raises.{round_ready, round_refillable}
use Rattle.min_cost.proofs.cheapest.Goals as goal

pub raise-requires : goal.raise-requires
raise-requires c =
    rw (c.ones-duals.ensures.slots, c.ones-duals.ensures.items)
    (ready_raisable (start_ready c.requires.0) (length-take-le _ (replicate 64 0) c.requires.0.few))

pub fill-left-requires : goal.fill-left-requires
fill-left-requires c =
    rw c.empty-m.ensures
    (start_fillable c.requires.0 (rw (c.ones-duals.ensures.slots, c.ones-duals.ensures.items) at c.raise.ensures.items) c.low.ensures)

pub loop-left-init : goal.loop-left-init
loop-left-init c =
    rw (c.raise.ensures.slots, c.ones-duals.ensures.slots)
    (ready_rounds (start_ready c.requires.0) (rw (c.ones-duals.ensures.slots, c.ones-duals.ensures.items) at c.raise.ensures.items)
    c.requires.1 c.fill-left.ensures)

pub overflow_add-number : goal.overflow_add-number
overflow_add-number c = omega (arith, number-le c.loop-left.invariant c.loop-left-test.true c.size-number.ensures)

pub raise-requires-in-loop-left : goal.raise-requires-in-loop-left
raise-requires-in-loop-left c =
    let K = c.loop-left.invariant in
    rw c.lift.ensures.items
    (ready_raisable (round_ready K c.loop-left-test.true c.size-number.ensures c.lift.ensures.slots c.deficient_set-up.ensures) K.tight.sized)

pub refill-left-requires : goal.refill-left-requires
refill-left-requires c =
    round_refillable c.loop-left.invariant c.loop-left-test.true c.size-number.ensures c.lift.ensures.slots c.deficient_set-up.ensures
    (rw c.lift.ensures.items at c.raise-in-loop-left.ensures.items)

pub loop-left-smaller : goal.loop-left-smaller
loop-left-smaller c = number-less c.loop-left.invariant c.loop-left-test.true c.size-number.ensures

pub loop-left-preserved : goal.loop-left-preserved
loop-left-preserved c =
    let K = c.loop-left.invariant in
    rw c.raise-in-loop-left.ensures.slots
    (ready_rounds (round_ready K c.loop-left-test.true c.size-number.ensures c.lift.ensures.slots c.deficient_set-up.ensures)
    (rw c.lift.ensures.items at c.raise-in-loop-left.ensures.items) K.plan c.refill-left.ensures)

pub settle-requires : goal.settle-requires
settle-requires c = filled_settleable c.loop-left.invariant.filled c.loop-left-test.false

pub returns : goal.returns
returns c = let K = c.loop-left.invariant in settled_cheapest K.ready.square K.ready.duals K.tight c.settle.ensures
