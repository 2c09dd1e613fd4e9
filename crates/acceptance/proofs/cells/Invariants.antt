-- What is wrong in the words so far is gathered.
use Rattle.std.proofs.Common.{length}
use Rattle.acceptance.proofs.CellWords.{Faults}
use Rattle.acceptance.proofs.cells.Given as goal

abbrev pub invariant-loop-w : goal.invariant-loop-w
invariant-loop-w l = Faults l.m l.opens l.callouts l.beyond l.closed (length l.yielded)
