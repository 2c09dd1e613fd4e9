-- The number of complete plans, the permanent of the table, and the subset counts of the first and of the last items (docs/RULES.md: tally). Assumes nothing.
use Rattle.std.specs.Prelude.{List, [], ◌∷◌, map, ℕ, ◌-◌, ◌*◌, ◌^◌, length, take, drop}
use Rattle.std.specs.Int.Count.{ones}
use Rattle.words.specs.Word.{bit}
use Rattle.model.specs.Sets.{members}
use Rattle.words.specs.Sum.{below, total}
use Rattle.model.specs.Plans.{arrangements, matchings, plans}

-- the count of docs/RULES.md
unfoldable pub count : ℕ → List ℕ → ℕ
unfolding plans
count m opens = length (plans m opens)

-- the product of the entries that an arrangement takes, one of each row
unfoldable pub product : List ℕ → List ℕ → ℕ
unfolding bit
product [] p = 1
product (w ∷ opens) [] = 1
product (w ∷ opens) (s ∷ p) = bit w s * product opens p

-- the permanent of the table of zeros and ones with a row for each item and m columns
unfoldable pub permanent : ℕ → List ℕ → ℕ
unfolding total product arrangements below
permanent m opens = total (product opens) (arrangements (length opens) (below m))

-- the number of ways to give the slots of a set, all of them, to the items, one to each
abbrev ways_for : ℕ → List ℕ → ℕ → ℕ
ways_for m items set = length (matchings items (ones set) (members m set))

-- to the first items, as many as the set has bits
unfoldable pub subset_count : ℕ → List ℕ → ℕ → ℕ
unfolding matchings ones members
subset_count m opens set = ways_for m (take (ones set) opens) set

-- to the last items, as many as the set has bits
unfoldable pub last_count : ℕ → List ℕ → ℕ → ℕ
unfolding matchings ones members
last_count m opens set = ways_for m (drop (length opens - ones set) opens) set

-- the words that a count writes
unfoldable pub subset_counts : ℕ → List ℕ → List ℕ
unfolding subset_count below
subset_counts m opens = map (subset_count m opens) (below (2 ^ m))

-- the words that a plan by its number and a plan's number write
unfoldable pub last_counts : ℕ → List ℕ → List ℕ
unfolding last_count below
last_counts m opens = map (last_count m opens) (below (2 ^ m))
