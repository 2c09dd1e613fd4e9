-- The loop of `ryser::row_sums`: the sums of items 8k + i to 8k + 7 are in x. Assumes nothing.
use Rattle.ryser.proofs.RowSums.{Summed}
use Rattle.ryser.proofs.row_sums.Given as goal

abbrev pub invariant-loop-i : goal.invariant-loop-i
invariant-loop-i l = Summed l.opens l.set l.k l.i l.x
