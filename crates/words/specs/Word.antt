-- Words as sets of slots: slot j is in w if bit j is 1. How many slots a word has is the library's `ones`, the slots in
-- both of two words are its `bit_and`, those in either its `bit_or`. Assumes nothing.
use Rattle.std.specs.Prelude.{Bool, ℕ, ◌+◌, ◌-◌, ◌*◌, ◌/◌, ◌%◌, ◌^◌, eqb}
use Rattle.std.specs.Int.Bits.{bit_and, bit_or}
use Rattle.std.specs.Int.Count.{count_trailing_zeros}

-- bit j of w, 0 or 1
unfoldable pub bit : ℕ → ℕ → ℕ
bit w j = w / 2 ^ j % 2

-- slot j is in w
unfoldable pub has : ℕ → ℕ → Bool
unfolding bit
has w j = eqb (bit w j) 1

-- w with slot j
unfoldable pub with : ℕ → ℕ → ℕ
unfolding bit
with w j = w + (1 - bit w j) * 2 ^ j

-- w without slot j
unfoldable pub without : ℕ → ℕ → ℕ
unfolding bit
without w j = w - bit w j * 2 ^ j

-- the slots of a that are not in the 64-bit word b
unfoldable pub minus : ℕ → ℕ → ℕ
minus a b = bit_and a ((2 ^ 64 - 1) - b)

-- the slots of a outside b, and those of c in b
unfoldable pub select : ℕ → ℕ → ℕ → ℕ
select a b c = bit_or (minus a b) (bit_and c b)

-- the slots 0 to n - 1
unfoldable pub low : ℕ → ℕ
low n = 2 ^ n - 1

-- the lowest slot of the 64-bit word w; 64 where w is empty
unfoldable pub lowest : ℕ → ℕ
lowest w = count_trailing_zeros 64 w
