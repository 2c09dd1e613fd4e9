-- A turn passes an item that keeps its slot. Assumes nothing.
use Rattle.least.proofs.Settles.{Settling}
use Rattle.least.proofs.settle.Given as goal

abbrev pub invariant-loop-i : goal.invariant-loop-i
invariant-loop-i l = Settling l.opens l.fn.m.slot l.from l.m.owner l.m.slot l.m.free l.fixed l.i
