-- The items before item i hold the slots of their bytes. Assumes nothing.
use Rattle.plan.proofs.Adopts.{Adopting}
use Rattle.plan.proofs.adopt.Given as goal

abbrev pub invariant-loop-i : goal.invariant-loop-i
invariant-loop-i l = Adopting l.opens l.plan l.m.owner l.m.slot l.m.free l.i
