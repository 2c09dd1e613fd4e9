-- The sums of the rows, eight items a word, and what is left of Ryser's formula while the slots below j are still to be settled. Assumes nothing.
use Rattle.std.specs.Prelude.{◌≡◌, ℕ, ◌+◌, ◌-◌, ◌*◌, ◌%◌, ◌^◌, ◌<◌, ◌≤◌, Bool, cond, not, ◌&&◌, List, map, length, bit_and, count_ones, nat_lt, slice_index, slice_index_or}
use Rattle.words.specs.Word.{bit}
use Rattle.words.specs.Sum.{up_from}
use Rattle.model.specs.Ryser.{set_product, over_sets}
use Rattle.ryser.specs.declared.Sums.{Sums}
use Rattle.ryser.specs.Bytes.{packed, bytes, some_zero, Small}

-- how many slots of the set are open to item i; beyond the items 1, which no product sees
unfoldable pub row_sum : List ℕ → ℕ → ℕ → ℕ
row_sum opens set i = cond (nat_lt i (length opens)) (count_ones (bit_and (slice_index opens i) set)) 1

-- the sums of items 8k to 8k + 7
unfoldable pub row_sums : List ℕ → ℕ → ℕ → ℕ
unfolding packed row_sum up_from
row_sums opens set k = packed (map (row_sum opens set) (up_from (8 * k) 8))

-- what slot j adds to them
unfoldable pub column : List ℕ → ℕ → ℕ → ℕ
unfolding packed up_from bit
column opens j k = packed (map (λ i. bit (slice_index opens i) j) (up_from (8 * k) 8))

-- the three words of a set's sums, and of what slot j adds
abbrev pub sums_of : List ℕ → ℕ → Sums
sums_of opens set = record { first = row_sums opens set 0; second = row_sums opens set 1; third = row_sums opens set 2 }

abbrev pub column_of : List ℕ → ℕ → Sums
column_of opens j = record { first = column opens j 0; second = column opens j 1; third = column opens j 2 }

-- word by word
abbrev pub less : Sums → Sums → Sums
less s c = record { first = s.first - c.first; second = s.second - c.second; third = s.third - c.third }

abbrev pub WithinSums : Sums → Sums → Type 0
WithinSums c s = (c.first ≤ s.first) × (c.second ≤ s.second) × (c.third ≤ s.third)

-- no sum is above 20
abbrev pub SmallSums : Sums → Type 0
SmallSums s = Small (bytes 8 s.first) × Small (bytes 8 s.second) × Small (bytes 8 s.third)

-- no sum is 0
abbrev pub full : Sums → Bool
full s = (not (some_zero (bytes 8 s.first)) && not (some_zero (bytes 8 s.second))) && not (some_zero (bytes 8 s.third))

-- the columns before the first is written
abbrev pub no_sums : Sums
no_sums = record { first = 0; second = 0; third = 0 }

-- the terms of one side, of `set` and of the sets that lack slots below j besides: they have its slots from j on, and any of those below j
unfoldable pub terms : ℕ → ℕ → List ℕ → ℕ → ℕ
unfolding over_sets set_product
terms side j opens set = over_sets side j (λ s. set_product opens ((set + 1 - 2 ^ j) + s))

-- r is the signed sum of these terms, modulo 2 to the power 64
abbrev pub IsSum : ℕ → List ℕ → ℕ → ℕ → Type 0
IsSum j opens set r = (r + terms 1 j opens set) % 2 ^ 64 ≡ terms 0 j opens set % 2 ^ 64

-- `sums` are those of a set that has every slot below j. `signed_sum` is not handed the rota and the set: what it promises
-- holds of each that fits.
pub record Underway (columns : List Sums) (j : ℕ) (sums : Sums) : Type 0 where
  pub opens : List ℕ
  pub set : ℕ
  pub few : length opens ≤ 20
  pub small : set < 2 ^ 20
  pub lows : (i : ℕ) → i < j → bit set i ≡ 1
  pub table : (k : ℕ) → k < j → slice_index_or columns k no_sums ≡ column_of opens k
  pub are : sums ≡ sums_of opens set

abbrev pub SignedSum : List Sums → ℕ → Sums → ℕ → Type 0
SignedSum columns j sums r = (u : Underway columns j sums) → IsSum j u.opens u.set r
