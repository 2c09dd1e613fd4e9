-- `ryser::count` meets its contract: the columns, then the signed sum with every slot still to be settled. Assumes nothing.
use Rattle.std.proofs.Common.{arith}
use Rattle.ryser.proofs.Tabling.{all-low, underway, counted}
use Rattle.ryser.proofs.count.Goals as goal

pub of-requires : goal.of-requires
of-requires c = all-low _ c.requires c.low.ensures

pub signed_sum-requires : goal.signed_sum-requires
signed_sum-requires c = underway c.requires c.loop-j.invariant c.loop-j-test.false (rw c.low.ensures at c.of.ensures)

pub returns : goal.returns
returns c =
    counted c.requires c.loop-j.invariant c.loop-j-test.false (rw c.low.ensures at c.of.ensures) _ (omega arith) c.signed_sum.ensures
