-- Each turn adds the slots open to one slot's holder. Assumes nothing.
use Rattle.model.proofs.Walks.{Joining}
use Rattle.augment.proofs.Spans.{held_open}
use Rattle.augment.proofs.Matching.span.Given as goal

abbrev pub invariant-loop-k : goal.invariant-loop-k
invariant-loop-k l = Joining (held_open l.opens l.self.owner) 64 0 l.fn.set l.all l.k-iterator.0
