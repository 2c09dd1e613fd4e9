-- A turn adds the slots of the lowest item that is left. Assumes nothing.
use Rattle.std.specs.Prelude.{length, get_or}
use Rattle.model.proofs.Walks.{Joining}
use Rattle.maximum.proofs.neighbours.Given as goal

abbrev pub invariant-loop-x : goal.invariant-loop-x
invariant-loop-x l = Joining (λ x. get_or l.opens x 0) (length l.opens) 0 l.fn.items l.all l.x-iterator.0
