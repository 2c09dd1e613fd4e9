-- The deficiency (the shortage of docs/RULES.md) and the deficient set. A set of items is a word below 2 to the power n.
-- Assumes nothing.
use Rattle.std.specs.Prelude.{List, map, ℕ, ◌-◌, ◌^◌, eqb, length, get_or}
use Rattle.std.specs.Int.Count.{ones}
use Rattle.model.specs.Sets.{union, members}
use Rattle.words.specs.Sum.{below}
use Rattle.model.specs.Lists.{keep, greatest, least, first}

-- the slots open to any item of the set
unfoldable pub neighbours : List ℕ → ℕ → ℕ
unfolding union members
neighbours opens set = union (map (λ i. get_or opens i 0) (members (length opens) set))

-- "short by" of docs/RULES.md: the set's size less the number of those slots, 0 where they are more
unfoldable pub short_by : List ℕ → ℕ → ℕ
unfolding ones neighbours
short_by opens set = ones set - ones (neighbours opens set)

-- all sets of items
unfoldable pub item_sets : List ℕ → List ℕ
unfolding below
item_sets opens = below (2 ^ length opens)

-- the greatest shortage
unfoldable pub deficiency : List ℕ → ℕ
unfolding greatest short_by item_sets
deficiency opens = greatest (map (short_by opens) (item_sets opens))

-- the sets with the greatest shortage
unfoldable pub deficient_sets : List ℕ → List ℕ
unfolding keep short_by deficiency item_sets
deficient_sets opens = keep (λ set. eqb (short_by opens set) (deficiency opens)) (item_sets opens)

-- the smallest of them
unfoldable pub deficient_set : List ℕ → ℕ
unfolding first keep ones least deficient_sets
deficient_set opens = first (keep (λ set. eqb (ones set) (least (map ones (deficient_sets opens)))) (deficient_sets opens))
