-- `permanent::subset_count` meets its contract: each turn adds the word of the set without one of its open slots. Assumes nothing.
use Rattle.std.proofs.Common.{arith}
use Rattle.permanent.proofs.Summing.{summing_start, slot_lt, slot_in, turn, summing_end}
use Rattle.permanent.proofs.subset_count.Goals as goal

pub loop-slot-init : goal.loop-slot-init
loop-slot-init c = rw c.into_iter-slot-iterator.ensures.into_iter_gives (summing_start _ _ _ (omega arith))

pub single-requires : goal.single-requires
single-requires c = slot_lt c.loop-slot.invariant c.in-Some.ensures.steps

pub overflow_sub-others : goal.overflow_sub-others
overflow_sub-others c = omega (arith, slot_in c.loop-slot.invariant c.in-Some.ensures.steps, c.single.ensures)

pub offset_bounds-counts-others : goal.offset_bounds-counts-others
offset_bounds-counts-others c = omega (arith, (turn c.loop-slot.invariant c.in-Some.ensures.steps c.single.ensures).below)

pub bounds-counts-others : goal.bounds-counts-others
bounds-counts-others c = omega (arith, (turn c.loop-slot.invariant c.in-Some.ensures.steps c.single.ensures).below)

pub overflow_add-ways : goal.overflow_add-ways
overflow_add-ways c = omega (arith, (turn c.loop-slot.invariant c.in-Some.ensures.steps c.single.ensures).fits)

pub loop-slot-preserved : goal.loop-slot-preserved
loop-slot-preserved c = (turn c.loop-slot.invariant c.in-Some.ensures.steps c.single.ensures).next

pub returns : goal.returns
returns c = summing_end c.loop-slot.invariant c.in-None.ensures.steps.0
