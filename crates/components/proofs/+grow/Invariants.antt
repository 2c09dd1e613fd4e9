-- What falls is the number of slots that the search has not seen. Assumes nothing.
use Rattle.components.proofs.Grows.{unseen, GrowthTurns}
use Rattle.components.proofs.+grow.Given as goal

abbrev pub decreases-grow : goal.decreases-grow
decreases-grow l = unseen l.start.rest l.path l.start.set

abbrev pub invariant-loop-next : goal.invariant-loop-next
invariant-loop-next l =
    GrowthTurns l.opens l.m.owner l.m.free l.fn.start.rest l.path l.fn.start.set l.fn.start.out l.allowed l.part.rest l.part.set l.part.out l.next

abbrev pub decreases-loop-next : goal.decreases-loop-next
decreases-loop-next l = unseen l.part.rest l.path l.part.set
