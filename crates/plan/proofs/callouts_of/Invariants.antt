-- The callouts are counted item by item. Assumes nothing.
use Rattle.std.proofs.Common.{length}
use Rattle.plan.proofs.Counts.{SoFar}
use Rattle.plan.proofs.callouts_of.Given as goal

abbrev pub invariant-loop-word : goal.invariant-loop-word
invariant-loop-word l = SoFar l.callouts l.fn.plan (length l.yielded) l.number
