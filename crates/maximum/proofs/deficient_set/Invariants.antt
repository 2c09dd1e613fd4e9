-- A turn adds the holder of the lowest slot that is left. Assumes nothing.
use Rattle.std.specs.Prelude.{◌^◌}
use Rattle.model.proofs.Walks.{Joining}
use Rattle.augment.specs.Table.{own}
use Rattle.maximum.proofs.deficient_set.Given as goal

abbrev pub invariant-loop-k : goal.invariant-loop-k
invariant-loop-k l = Joining (λ k. 2 ^ own l.m.owner k) 64 l.fn.left.exposed l.fn.left.dead l.all l.k-iterator.0
