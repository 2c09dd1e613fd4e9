-- A slot that is passed does not reach h. Assumes nothing.
use Rattle.augment.proofs.Spans.{Moving}
use Rattle.augment.proofs.Matching.mover.Given as goal

abbrev pub invariant-loop-k : goal.invariant-loop-k
invariant-loop-k l = Moving l.opens l.self.owner l.set l.h l.k-iterator.0
