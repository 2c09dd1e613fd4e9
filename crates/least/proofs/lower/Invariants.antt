-- A turn moves the item down, until it can go no lower. Assumes nothing.
use Rattle.least.proofs.Shifts.{Lowering}
use Rattle.least.proofs.lower.Given as goal

abbrev pub invariant-loop-x : goal.invariant-loop-x
invariant-loop-x l = Lowering l.opens l.x l.may l.fixed l.all l.fn.m.owner l.m.owner l.m.slot l.m.free l.s

abbrev pub decreases-loop-x : goal.decreases-loop-x
decreases-loop-x l = l.s
