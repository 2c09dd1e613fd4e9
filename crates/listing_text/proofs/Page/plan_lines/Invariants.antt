-- k plans are listed. Assumes nothing.
use Rattle.std.specs.Prelude.{◌-◌}
use Rattle.listing_text.proofs.PlansGiven.{Given}
use Rattle.listing_text.proofs.Page.plan_lines.Given as goal

abbrev pub invariant-loop-k : goal.invariant-loop-k
invariant-loop-k l = Given l.opens l.callouts l.initial.self l.self l.s l.k

abbrev pub decreases-loop-k : goal.decreases-loop-k
decreases-loop-k l = 1000 - l.k
