-- Ryser's formula: the permanent of a square table as a signed sum over the sets of its columns. Numbers have no sign here, so the terms
-- that are added and those that are taken off stand as two sums. Assumes nothing.
use Rattle.std.specs.Prelude.{List, [], ◌∷◌, ℕ, ◌-◌, ◌*◌, ◌%◌, ◌^◌, eqb}
use Rattle.std.specs.Int.Bits.{bit_and}
use Rattle.std.specs.Int.Count.{ones}
use Rattle.words.specs.Sum.{below, total}
use Rattle.model.specs.Lists.{keep}

-- the product, over the items, of how many slots of the set are open
unfoldable pub set_product : List ℕ → ℕ → ℕ
unfolding ones
set_product [] set = 1
set_product (w ∷ opens) set = ones (bit_and w set) * set_product opens set

-- f, added up over the sets of the slots below m that lack an even number of these (side 0), or an odd one (side 1)
unfoldable pub over_sets : ℕ → ℕ → (ℕ → ℕ) → ℕ
unfolding total keep below ones
over_sets side m f = total f (keep (λ set. eqb ((m - ones set) % 2) side) (below (2 ^ m)))

-- the terms of the formula that are added, those of the sets that lack an even number of slots
unfoldable pub added_terms : ℕ → List ℕ → ℕ
unfolding over_sets set_product
added_terms m opens = over_sets 0 m (set_product opens)

-- the terms that are taken off, those of the sets that lack an odd number
unfoldable pub taken_terms : ℕ → List ℕ → ℕ
unfolding over_sets set_product
taken_terms m opens = over_sets 1 m (set_product opens)
