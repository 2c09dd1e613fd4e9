-- The loop of `ryser::count`: the first j columns are written. Assumes nothing.
use Rattle.ryser.proofs.Tabling.{Tabled}
use Rattle.ryser.proofs.count.Given as goal

abbrev pub invariant-loop-j : goal.invariant-loop-j
invariant-loop-j l = Tabled l.opens l.columns l.j
