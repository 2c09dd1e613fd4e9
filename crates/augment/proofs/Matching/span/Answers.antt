-- Each turn adds the slots open to one slot's holder. Assumes nothing.
use Rattle.std.proofs.Common.{◌∙◌, arith}
use Rattle.std.specs.Int.Bits.{or_zero_l}
use Rattle.model.proofs.Walks.{joining_start, joining_turn, joining_end}
use Rattle.augment.specs.Table.{span}
use Rattle.augment.proofs.Matching.span.Goals as goal

pub loop-k-init : goal.loop-k-init
loop-k-init c = let O = c.requires in
    rw c.into_iter-k-iterator.ensures.into_iter_gives
    (joining_start (omega arith) c.ranges.set.fits c.ranges.set.fits (λ k h b. O.range _ (O.item k h b)))

pub holder-requires : goal.holder-requires
holder-requires c = let s = c.in-Some.ensures.steps in (joining_turn c.loop-k.invariant s.0 s.1).below

pub offset_bounds-opens-holder : goal.offset_bounds-opens-holder
offset_bounds-opens-holder c =
    let s = c.in-Some.ensures.steps in
    let turn = joining_turn c.loop-k.invariant s.0 s.1 in
    omega (arith, c.requires.item _ turn.below turn.from, c.requires.few, c.holder.ensures)

pub bounds-opens-holder : goal.bounds-opens-holder
bounds-opens-holder c =
    let s = c.in-Some.ensures.steps in
    let turn = joining_turn c.loop-k.invariant s.0 s.1 in
    rw c.holder.ensures (c.requires.item _ turn.below turn.from)

pub loop-k-preserved : goal.loop-k-preserved
loop-k-preserved c =
    let s = c.in-Some.ensures.steps in
    rw (s.2, c.holder.ensures) (joining_turn c.loop-k.invariant s.0 s.1).next

pub returns : goal.returns
unfolding span
returns c = joining_end c.loop-k.invariant c.in-None.ensures.steps.0 ∙ or_zero_l _
