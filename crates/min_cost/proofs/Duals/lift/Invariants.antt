-- A turn makes one level. Assumes nothing.
use Rattle.min_cost.proofs.Levels.{Lifting}
use Rattle.min_cost.proofs.Duals.lift.Given as goal

abbrev pub invariant-loop-word : goal.invariant-loop-word
invariant-loop-word l = Lifting l.fn.self.level l.dead l.word-items l.below l.word-index
