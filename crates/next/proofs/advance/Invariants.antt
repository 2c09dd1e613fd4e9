-- From the last item down to i none can go above its slot. Assumes nothing.
use Rattle.next.proofs.Advances.{Advancing}
use Rattle.next.proofs.advance.Given as goal

abbrev pub invariant-loop-i : goal.invariant-loop-i
invariant-loop-i l = Advancing l.opens l.fn.m.slot l.m.owner l.m.slot l.m.free l.fixed l.after l.i
