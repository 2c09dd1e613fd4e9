-- `ryser::row_sums` meets its contract: from the last byte to the first. Assumes nothing.
use Rattle.std.proofs.Common.{arith}
use Rattle.ryser.proofs.RowSums.{summed_none, summed_lt, summed_more, summed_all}
use Rattle.ryser.proofs.row_sums.Goals as goal

pub loop-i-init : goal.loop-i-init
loop-i-init c = summed_none _ _ _

pub overflow_mul-x : goal.overflow_mul-x
overflow_mul-x c = omega (arith, summed_lt c.loop-i.invariant 56 (omega arith))

pub overflow_add-x : goal.overflow_add-x
overflow_add-x c =
    omega (arith, summed_lt (summed_more c.loop-i.invariant c.requires.0 c.loop-i-test.true c.row_sum.ensures) 64 (omega arith))

pub loop-i-preserved : goal.loop-i-preserved
loop-i-preserved c = summed_more c.loop-i.invariant c.requires.0 c.loop-i-test.true c.row_sum.ensures

pub returns : goal.returns
returns c = summed_all c.loop-i.invariant c.loop-i-test.false
