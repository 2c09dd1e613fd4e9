-- A turn adds the slots of the lowest item that is left. Assumes nothing.
use Rattle.std.proofs.Common.{◌∙◌, arith}
use Rattle.std.specs.Int.Bits.{or_zero_l}
use Rattle.model.specs.Deficiency.{neighbours}
use Rattle.model.proofs.Walks.{joining_start, joining_turn, joining_end}
use Rattle.maximum.proofs.neighbours.Goals as goal

pub loop-x-init : goal.loop-x-init
loop-x-init c =
    rw c.into_iter-x-iterator.ensures.into_iter_gives
    (joining_start (omega arith) c.ranges.items.fits c.requires.1 (λ k h b. (c.type_inv.opens k).fits))

pub offset_bounds-opens-x : goal.offset_bounds-opens-x
offset_bounds-opens-x c =
    let s = c.in-Some.ensures.steps in
    omega (arith, (joining_turn c.loop-x.invariant s.0 s.1).below, c.requires.0)

pub bounds-opens-x : goal.bounds-opens-x
bounds-opens-x c = let s = c.in-Some.ensures.steps in (joining_turn c.loop-x.invariant s.0 s.1).below

pub loop-x-preserved : goal.loop-x-preserved
loop-x-preserved c = let s = c.in-Some.ensures.steps in rw s.2 (joining_turn c.loop-x.invariant s.0 s.1).next

pub returns : goal.returns
unfolding neighbours
returns c = joining_end c.loop-x.invariant c.in-None.ensures.steps.0 ∙ or_zero_l _
