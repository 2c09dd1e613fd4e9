-- A turn makes one item's dual and word. Assumes nothing.
use Rattle.std.proofs.Common.{◌≡◌}
use Rattle.min_cost.proofs.Levels.{Raising}
use Rattle.min_cost.proofs.Duals.raise.Given as goal

abbrev pub invariant-loop-i : goal.invariant-loop-i
invariant-loop-i l = record {
  raising : Raising l.opens l.callouts l.self.level l.fn.self.item l.up l.fn.tight l.self.item l.tight l.i;
  same : l.self.level ≡ l.fn.self.level;
}
