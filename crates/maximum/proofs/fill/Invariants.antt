-- The items that are left are still to be served. Assumes nothing.
use Rattle.maximum.proofs.Filling.{Filling}
use Rattle.maximum.proofs.fill.Given as goal

abbrev pub invariant-loop-x : goal.invariant-loop-x
invariant-loop-x l = Filling l.opens l.fn.wanting l.m.owner l.m.slot l.m.free l.exposed l.dead l.x-iterator.0
