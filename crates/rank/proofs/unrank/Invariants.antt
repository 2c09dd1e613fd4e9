-- The loops of `rank::unrank`: an item begins with its open slots of the set, and each turn passes over one. Assumes nothing.
use Rattle.std.specs.Int.Bits.{bit_and}
use Rattle.std.proofs.Common.{get_or}
use Rattle.rank.proofs.Unranking.{Unranking}
use Rattle.rank.proofs.unrank.Given as goal

abbrev pub invariant-loop-i : goal.invariant-loop-i
invariant-loop-i l = Unranking l.opens l.k l.i l.set (bit_and (get_or l.opens l.i 0) l.set) l.further l.plan

abbrev pub invariant-loop-slot : goal.invariant-loop-slot
invariant-loop-slot l = Unranking l.opens l.k l.i l.set l.slot-iterator.0 l.further l.plan
