-- Sets as words: the slots or items in a word as a list, and the union of a list of words. Assumes nothing.
use Rattle.std.specs.Prelude.{List, [], ◌∷◌, map, ℕ, ◌^◌}
use Rattle.std.specs.Int.Bits.{bit_or}
use Rattle.words.specs.Word.{has}
use Rattle.words.specs.Sum.{below}
use Rattle.model.specs.Lists.{keep}

-- the numbers below n in the set, rising
unfoldable pub members : ℕ → ℕ → List ℕ
unfolding keep has below
members n set = keep (has set) (below n)

-- what is in any word of the list
unfoldable pub union : List ℕ → ℕ
union [] = 0
union (w ∷ words) = bit_or w (union words)

-- the image of a set: f x, for the numbers x below n in it
unfoldable pub image : (ℕ → ℕ) → ℕ → ℕ → ℕ
unfolding union members
image f n set = union (map (λ x. 2 ^ f x) (members n set))
