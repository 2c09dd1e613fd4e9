-- The fewest callouts, and the plans that have so few. Assumes nothing.
use Rattle.std.specs.Prelude.{List, map, ℕ, eqb, length, get_or}
use Rattle.words.specs.Word.{bit}
use Rattle.words.specs.Sum.{sum}
use Rattle.model.specs.Lists.{keep, least}
use Rattle.model.specs.Plans.{plans}

-- how many of a plan's cells are callouts
unfoldable pub callouts_of : List ℕ → List ℕ → ℕ
unfolding sum bit
callouts_of callouts p = sum (λ i. bit (get_or callouts i 0) (get_or p i 0)) (length callouts)

-- the fewest callouts of a complete plan; 0 where there is no plan
unfoldable pub fewest : ℕ → List ℕ → List ℕ → ℕ
unfolding least callouts_of plans
fewest m opens callouts = least (map (callouts_of callouts) (plans m opens))

-- the complete plans with the fewest callouts, in dictionary order
unfoldable pub fewest_plans : ℕ → List ℕ → List ℕ → List (List ℕ)
unfolding keep callouts_of fewest plans
fewest_plans m opens callouts = keep (λ p. eqb (callouts_of callouts p) (fewest m opens callouts)) (plans m opens)
