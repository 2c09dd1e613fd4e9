-- Each round raises the duals. Assumes nothing.
use Rattle.std.specs.Prelude.{◌-◌, length}
use Rattle.min_cost.proofs.Raises.{Rounds}
use Rattle.min_cost.proofs.cheapest.Given as goal

abbrev pub invariant-loop-left : goal.invariant-loop-left
invariant-loop-left l =
    Rounds l.opens l.callouts l.tight l.duals.item l.duals.level l.m.owner l.m.slot l.m.free l.left.exposed l.left.dead l.number

abbrev pub decreases-loop-left : goal.decreases-loop-left
decreases-loop-left l = length l.opens - l.number
