-- A slot that is passed does not reach h, so one that is left does. Assumes nothing.
use Rattle.std.proofs.Common.{sym, ◌∙◌, refl, arith}
use Rattle.words.proofs.Bits.{bit_one, bit-none}
use Rattle.augment.proofs.Spans.{moving_some, moving_turn}
use Rattle.augment.proofs.Matching.mover.Goals as goal

pub holder-requires : goal.holder-requires
holder-requires c = (moving_turn c.loop-k.invariant c.in-Some.ensures.steps.1 refl).below

pub offset_bounds-opens-holder : goal.offset_bounds-opens-holder
offset_bounds-opens-holder c =
    omega (arith, (moving_turn c.loop-k.invariant c.in-Some.ensures.steps.1 c.holder.ensures).item, c.requires.owners.few)

pub bounds-opens-holder : goal.bounds-opens-holder
bounds-opens-holder c = (moving_turn c.loop-k.invariant c.in-Some.ensures.steps.1 c.holder.ensures).item

pub returns-then-has : goal.returns-then-has
returns-then-has c =
    (moving_turn c.loop-k.invariant c.in-Some.ensures.steps.1 c.holder.ensures).found (bit_one _ _ (sym c.has.ensures ∙ c.if-has.true))

pub loop-k-preserved : goal.loop-k-preserved
loop-k-preserved c =
    let shut = bit-none _ _ (sym c.has.ensures ∙ c.if-has.false) in
    let s = c.in-Some.ensures.steps in
    rw s.2 ((moving_turn c.loop-k.invariant s.1 c.holder.ensures).next shut)

pub unreachable-requires : goal.unreachable-requires
unreachable-requires c = moving_some c.loop-k.invariant c.in-None.ensures.steps.0
