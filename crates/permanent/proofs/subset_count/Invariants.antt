-- The loop of `permanent::subset_count`: the slots that the iterator has left are still to be added. Assumes nothing.
use Rattle.permanent.proofs.Summing.{Partial}
use Rattle.permanent.proofs.subset_count.Given as goal

abbrev pub invariant-loop-slot : goal.invariant-loop-slot
invariant-loop-slot l = Partial l.opened l.counts l.set l.slot-iterator.0 l.ways
