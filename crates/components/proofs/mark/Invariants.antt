-- Each turn writes the word of one slot's holder. Assumes nothing.
use Rattle.components.proofs.Marks.{Marking}
use Rattle.components.proofs.mark.Given as goal

abbrev pub invariant-loop-k : goal.invariant-loop-k
invariant-loop-k l = Marking l.opens l.m.owner l.fn.held l.set l.fn.allowed l.allowed l.k-iterator.0
