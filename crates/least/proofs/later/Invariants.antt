-- The words of the items passed are gathered from the last item down. Assumes nothing.
use Rattle.least.proofs.Settles.{Gathered}
use Rattle.least.proofs.later.Given as goal

abbrev pub invariant-loop-i : goal.invariant-loop-i
invariant-loop-i l = Gathered l.opens l.table l.all l.i
