-- The loops of `rank::rank`: an item begins with its open slots of the set, and each turn passes over one. Assumes nothing.
use Rattle.std.specs.Int.Bits.{bit_and}
use Rattle.std.proofs.Common.{get_or}
use Rattle.rank.proofs.Ranking.{Ranking}
use Rattle.rank.proofs.rank.Given as goal

abbrev pub invariant-loop-i : goal.invariant-loop-i
invariant-loop-i l = Ranking l.opens l.i l.set (bit_and (get_or l.opens l.i 0) l.set) l.number l.plan

abbrev pub invariant-loop-slot : goal.invariant-loop-slot
invariant-loop-slot l = Ranking l.opens l.i l.set l.slot-iterator.0 l.number l.plan
