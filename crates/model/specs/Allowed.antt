-- The allowed slots (the usable table of docs/RULES.md). Assumes nothing.
use Rattle.std.specs.Prelude.{Bool, not, List, map, ℕ, ◌^◌, length}
use Rattle.words.specs.Sum.{below}
use Rattle.model.specs.Lists.{keep, same}
use Rattle.model.specs.Sets.{union}
use Rattle.model.specs.Plans.{blank}
use Rattle.model.specs.CellPlans.{cell_plan}

-- some complete plan gives item i slot j: the cell's plan is not the blank one
unfoldable pub allowed : ℕ → List ℕ → ℕ → ℕ → Bool
unfolding same cell_plan
allowed m opens i j = not (same (cell_plan m opens i j) blank)

-- the slots that the complete plans give item i: bit j is set exactly if the cell's plan is not the blank one
unfoldable pub allowed_word : ℕ → List ℕ → ℕ → ℕ
unfolding union keep allowed below
allowed_word m opens i = union (map (λ j. 2 ^ j) (keep (allowed m opens i) (below m)))

-- the usable table of docs/RULES.md: such a word for each item
unfoldable pub allowed_words : ℕ → List ℕ → List ℕ
unfolding allowed_word below
allowed_words m opens = map (allowed_word m opens) (below (length opens))
