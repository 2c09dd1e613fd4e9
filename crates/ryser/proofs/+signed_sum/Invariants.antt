-- `ryser::signed_sum`: what falls is the number of slots that are not settled. Assumes nothing.
use Rattle.std.proofs.Common.{◌≤◌}
use Rattle.ryser.proofs.LeavingOut.{Partly}
use Rattle.ryser.proofs.+signed_sum.Given as goal

abbrev pub decreases-signed_sum : goal.decreases-signed_sum
decreases-signed_sum l = l.j

abbrev pub invariant-loop-k : goal.invariant-loop-k
invariant-loop-k l = record { slots : l.j ≤ 20; turns : Partly l.columns l.j l.sums l.k l.sum }
