-- The loop of `permanent::count_subsets`: the words below `set` are written. Assumes nothing.
use Rattle.permanent.proofs.Upward.{Upward}
use Rattle.permanent.proofs.count_subsets.Given as goal

abbrev pub invariant-loop-set : goal.invariant-loop-set
invariant-loop-set l = Upward l.m l.opens l.initial.counts l.counts l.end l.set l.plans
