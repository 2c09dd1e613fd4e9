-- Each turn writes the word of one slot's holder. Assumes nothing.
use Rattle.std.proofs.Common.{refl, arith}
use Rattle.components.proofs.Marks.{visit, marking-end}
use Rattle.components.proofs.mark.Goals as goal

pub holder-y-requires : goal.holder-y-requires
holder-y-requires c = let s = c.in-Some.ensures.steps in (visit c.loop-k.invariant s.0 s.1 refl).below

pub offset_bounds-opens-y : goal.offset_bounds-opens-y
offset_bounds-opens-y c = let s = c.in-Some.ensures.steps in omega (arith, (visit c.loop-k.invariant s.0 s.1 c.holder-y.ensures).room)

pub bounds-opens-y : goal.bounds-opens-y
bounds-opens-y c = let s = c.in-Some.ensures.steps in (visit c.loop-k.invariant s.0 s.1 c.holder-y.ensures).item

pub offset_bounds-allowed-y : goal.offset_bounds-allowed-y
offset_bounds-allowed-y c = let s = c.in-Some.ensures.steps in omega (arith, (visit c.loop-k.invariant s.0 s.1 c.holder-y.ensures).room)

pub bounds-allowed-y : goal.bounds-allowed-y
bounds-allowed-y c = let s = c.in-Some.ensures.steps in (visit c.loop-k.invariant s.0 s.1 c.holder-y.ensures).room

pub loop-k-preserved : goal.loop-k-preserved
loop-k-preserved c = let s = c.in-Some.ensures.steps in rw s.2 (visit c.loop-k.invariant s.0 s.1 c.holder-y.ensures).next

pub returns : goal.returns
returns c = marking-end c.loop-k.invariant c.in-None.ensures.steps.0
