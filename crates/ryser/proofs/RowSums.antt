-- The sums of the rows: what a slot adds to them, that none is above 20, and their product. Assumes nothing.
use Rattle.std.proofs.Common.{◌≡◌, ℕ, zero, suc, ◌+◌, ◌-◌, ◌*◌, ◌^◌, ◌<◌, ◌≤◌, cond, List, [], ◌∷◌, map, length, get_or, take, sym, refl, ap, ◌∙◌, ap₂, lt_of_lt_of_le, zero-add, arith, pow_mono, le-ltb, lt-ltb}
use mathlib.Core.Path.{fun_ext}
use native.Mathlib.Decide.{dec_lt}
use lib.Bits.{bit_and, and_le_r}
use lib.Count.{ones, ones-le}
use lib.ListN.{length-map, get_or-eq_default}
use Rattle.words.specs.Word.{bit, without}
use Rattle.words.specs.Sum.{up_from}
use Rattle.words.proofs.Bits.{bit_empty, bit_single, bit-without, without-add}
use Rattle.words.proofs.Sums.{length-up_from}
use Rattle.words.proofs.OneMore.{ones-and_single}
use Rattle.model.specs.Ryser.{set_product}
use Rattle.ryser.specs.Bytes.{packed, bytes, multiplied, Small}
use Rattle.ryser.specs.declared.Sums.{Sums}
use Rattle.ryser.specs.RowSums.{row_sum, row_sums, column, sums_of, column_of, less, WithinSums}
use Rattle.ryser.proofs.Bytes.{packed-add, packed_lt, bytes_packed}

-- a row's sum, and beyond the items
module _ (opens : List ℕ) (set i : ℕ) where
  pub row_sum_in : i < length opens → row_sum opens set i ≡ ones (bit_and (get_or opens i 0) set)
  unfolding row_sum
  row_sum_in h = ap (λ b. cond b (ones (bit_and (get_or opens i 0) set)) 1) (lt-ltb i (length opens) h)

  pub row_sum_beyond : length opens ≤ i → row_sum opens set i ≡ 1
  unfolding row_sum
  row_sum_beyond h = ap (λ b. cond b (ones (bit_and (get_or opens i 0) set)) 1) (le-ltb i (length opens) h)

-- ---- a slot less

-- word by word
record_eq : {a b c x y z : ℕ} → a ≡ x → b ≡ y → c ≡ z
    → ◌≡◌ {A = Sums} (record { first = a; second = b; third = c }) (record { first = x; second = y; third = z })
record_eq p q r = rw (p, q, r) refl

module _ (opens : List ℕ) (set j : ℕ) (e : bit set j ≡ 1) where
  pub row_sum-less : (i : ℕ) → row_sum opens set i ≡ row_sum opens (without set j) i + bit (get_or opens i 0) j
  row_sum-less i = go (dec_lt i (length opens))
    where
      go : Dec (i < length opens) → row_sum opens set i ≡ row_sum opens (without set j) i + bit (get_or opens i 0) j
      go (yes h) =
          let w = get_or opens i 0 in
          row_sum_in opens set i h
          ∙ ap (λ s. ones (bit_and w s)) (sym (without-add set j e)) ∙ ones-and_single w (without set j) j (bit-without set j)
          ∙ ap (◌+ bit w j) (sym (row_sum_in opens (without set j) i h))
      go (no h) =
          let none : bit (get_or opens i 0) j ≡ 0 = ap (λ w. bit w j) (get_or-eq_default opens 0 {n = i} (omega arith)) ∙ bit_empty j in
          omega (arith, none, row_sum_beyond opens set i (omega arith), row_sum_beyond opens (without set j) i (omega arith))

  pub sums_less : (k : ℕ) → row_sums opens set k ≡ row_sums opens (without set j) k + column opens j k
  unfolding row_sums column
  sums_less k =
      ap (λ f. packed (map f (up_from (8 * k) 8))) (fun_ext row_sum-less)
      ∙ packed-add (row_sum opens (without set j)) (λ i. bit (get_or opens i 0) j) (up_from (8 * k) 8)

sums_single : (opens : List ℕ) (j k : ℕ) → row_sums opens (2 ^ j) k ≡ row_sums opens 0 k + column opens j k
sums_single opens j k =
    let none : without (2 ^ j) j ≡ 0 = omega (arith, without-add (2 ^ j) j (bit_single j)) in
    sums_less opens (2 ^ j) j (bit_single j) k ∙ ap (λ s. row_sums opens s k + column opens j k) none

-- the same of the three words
pub column_within : (opens : List ℕ) (set j : ℕ) → bit set j ≡ 1 → WithinSums (column_of opens j) (sums_of opens set)
column_within opens set j e =
    let of = sums_less opens set j e in
    (omega (arith, of 0), omega (arith, of 1), omega (arith, of 2))

pub sums_rest : (opens : List ℕ) (set j : ℕ) → bit set j ≡ 1 → less (sums_of opens set) (column_of opens j) ≡ sums_of opens (without set j)
sums_rest opens set j e =
    let of = sums_less opens set j e in
    record_eq (omega (arith, of 0)) (omega (arith, of 1)) (omega (arith, of 2))

pub column_alone : (opens : List ℕ) (j : ℕ)
    → WithinSums (sums_of opens 0) (sums_of opens (2 ^ j)) × (less (sums_of opens (2 ^ j)) (sums_of opens 0) ≡ column_of opens j)
column_alone opens j = (
  (omega (arith, sums_single opens j 0), omega (arith, sums_single opens j 1), omega (arith, sums_single opens j 2)),
  record_eq (omega (arith, sums_single opens j 0)) (omega (arith, sums_single opens j 1)) (omega (arith, sums_single opens j 2)),
)

-- ---- none is above 20

module _ (opens : List ℕ) (set : ℕ) (h : set < 2 ^ 20) where
  pub row_sum-le : (i : ℕ) → row_sum opens set i ≤ 20
  row_sum-le i = elim (dec_lt i (length opens)) [
    | yes l ↦ rw (row_sum_in opens set i l) (ones-le 20 _ (omega (arith, and_le_r (get_or opens i 0) set)))
    | no l ↦ omega (arith, row_sum_beyond opens set i (omega arith))
  ]

  small_sums : (l : List ℕ) → Small (map (row_sum opens set) l)
  small_sums [] = tt
  small_sums (i ∷ l) = (row_sum-le i, small_sums l)

  -- word k's bytes
  pub sums_bytes : (k : ℕ) → bytes 8 (row_sums opens set k) ≡ map (row_sum opens set) (up_from (8 * k) 8)
  unfolding row_sums up_from
  sums_bytes k = bytes_packed (map (row_sum opens set) (up_from (8 * k) 8)) (small_sums (up_from (8 * k) 8))

  -- of the third word those of items 16 to 19, which a term has
  four_bytes : bytes 4 (row_sums opens set 2) ≡ map (row_sum opens set) (up_from 16 4)
  unfolding bytes up_from
  four_bytes = ap (take 4) (sums_bytes 2)

  pub sums_small : (k : ℕ) → Small (bytes 8 (row_sums opens set k))
  sums_small k = rw (sums_bytes k) (small_sums (up_from (8 * k) 8))

  sums_lt : (a n w : ℕ) → 8 * n ≤ w → packed (map (row_sum opens set) (up_from a n)) < 2 ^ w
  sums_lt a n w l =
      let size : 8 * length (map (row_sum opens set) (up_from a n)) ≤ w = omega (arith, length-map (up_from a n) (row_sum opens set), length-up_from a n) in
      lt_of_lt_of_le (packed_lt (map (row_sum opens set) (up_from a n)) (small_sums (up_from a n))) (pow_mono size)

-- ---- packed from the last to the first

-- x has the sums of items 8k + i to 8k + 7
pub record Summed (opens : List ℕ) (set k i x : ℕ) : Type 0 where
  pub in_word : i ≤ 8
  pub sums : x ≡ packed (map (row_sum opens set) (up_from (8 * k + i) (8 - i)))
  pub bits : x < 2 ^ (8 * (8 - i))

pub summed_none : (opens : List ℕ) (set k : ℕ) → Summed opens set k 8 0
unfolding packed up_from
summed_none opens set k = record { in_word = omega arith; sums = refl; bits = omega arith }

module _ {opens : List ℕ} {set k i x : ℕ} (S : Summed opens set k i x) where
  pub summed_lt : (w : ℕ) → 8 * (8 - i) ≤ w → x < 2 ^ w
  summed_lt w l = lt_of_lt_of_le S.bits (pow_mono l)

  pub summed_more : set < 2 ^ 20 → 0 < i → {b : ℕ} → b ≡ row_sum opens set (8 * k + (i - 1)) → Summed opens set k (i - 1) (x * 256 + b)
  unfolding packed up_from
  summed_more h l {b} e =
      let a = 8 * k + (i - 1) in
      let n = 8 - i in
      let next : 8 * k + i ≡ suc a = omega arith in
      let more : 8 - (i - 1) ≡ suc n = omega arith in
      let f = row_sum opens set in
      let rest : x ≡ packed (map f (up_from (suc a) n)) = S.sums ∙ ap (λ y. packed (map f (up_from y n))) next in
      let whole : x * 256 + b ≡ packed (map f (up_from a (suc n))) = omega (arith, rest, e) in
      record {
        in_word = omega (arith, S.in_word);
        sums = whole ∙ ap (λ y. packed (map f (up_from a y))) (sym more);
        bits = rw whole (sums_lt opens set h a (suc n) (8 * (8 - (i - 1))) (omega arith));
      }

pub summed_all : {opens : List ℕ} {set k i x : ℕ} → Summed opens set k i x → i ≤ 0 → x ≡ row_sums opens set k
unfolding row_sums
summed_all {opens} {set} {k} {i} S h =
    let at : 8 * k + i ≡ 8 * k = omega arith in
    let all : 8 - i ≡ 8 = omega arith in
    S.sums ∙ ap₂ (λ a n. packed (map (row_sum opens set) (up_from a n))) at all

-- ---- their product

module _ (f : ℕ → ℕ) where
  abbrev product_of : ℕ → ℕ → ℕ
  product_of a n = multiplied (map f (up_from a n))

  product_split : (a b c : ℕ) → product_of a (b + c) ≡ product_of a b * product_of (a + b) c
  unfolding multiplied up_from
  product_split a zero c =
      let more : 0 + c ≡ c = omega arith in
      let at : a ≡ a + 0 = omega arith in
      ap (product_of a) more ∙ ap (λ x. product_of x c) at ∙ omega arith
  product_split a (suc b) c =
      let at : product_of (suc a + b) c ≡ product_of (a + suc b) c = ap (λ x. product_of x c) (omega arith) in
      let more : suc b + c ≡ suc (b + c) = omega arith in
      ap (product_of a) more ∙ ap (f a *◌) (product_split (suc a) b c ∙ ap (product_of (suc a) b *◌) at) ∙ omega arith

  product-ones : (a n : ℕ) → ((i : ℕ) → a ≤ i → f i ≡ 1) → product_of a n ≡ 1
  unfolding multiplied up_from
  product-ones a zero h = refl
  product-ones a (suc n) h = ap₂ ◌*◌ (h a (omega arith)) (product-ones (suc a) n (λ i l. h i (omega arith)))

  product-items : (set a : ℕ) (items : List ℕ) → ((i : ℕ) → i < length items → f (a + i) ≡ ones (bit_and (get_or items i 0) set))
      → product_of a (length items) ≡ set_product items set
  unfolding multiplied up_from set_product
  product-items set a [] h = refl
  product-items set a (w ∷ items) h =
      let next : (i : ℕ) → a + suc i ≡ suc a + i = λ i. omega arith in
      let here : a + 0 ≡ a = omega arith in
      ap₂ ◌*◌ (ap f (sym here) ∙ h 0 (omega arith))
      (product-items set (suc a) items (λ i l. ap f (sym (next i)) ∙ h (suc i) (omega arith)))

-- the product over the items is that of the three words' bytes
pub sums_product : (opens : List ℕ) (set : ℕ) → length opens ≤ 20 → set < 2 ^ 20
    → multiplied (bytes 8 (row_sums opens set 0)) * multiplied (bytes 8 (row_sums opens set 1)) * multiplied (bytes 4 (row_sums opens set 2))
    ≡ set_product opens set
sums_product opens set few h =
    let f = row_sum opens set in
    let n = length opens in
    let rest : n + (20 - n) ≡ 20 = omega arith in
    rw (sums_bytes opens set h 0, sums_bytes opens set h 1, four_bytes opens set h)
    (ap (◌* product_of f 16 4) (sym (product_split f 0 8 8)) ∙ sym (product_split f 0 16 4)
    ∙ ap (product_of f 0) (sym rest) ∙ product_split f 0 n (20 - n)
    ∙ ap₂ ◌*◌
    (product-items f set 0 opens (λ i l. ap f (zero-add i) ∙ row_sum_in opens set i l))
    (product-ones f (0 + n) (20 - n) (λ i l. row_sum_beyond opens set i (omega arith)))
    ∙ omega arith)

-- a row without a slot
no_factor : (opens : List ℕ) (set i : ℕ) → i < length opens → ones (bit_and (get_or opens i 0) set) ≡ 0 → set_product opens set ≡ 0
unfolding set_product
no_factor [] set i h z = absurd (omega arith)
no_factor (w ∷ opens) set zero h z = ap (◌* set_product opens set) z ∙ omega arith
no_factor (w ∷ opens) set (suc i) h z = ap (ones (bit_and w set) *◌) (no_factor opens set i (omega arith) z) ∙ omega arith

pub product-none : (opens : List ℕ) (set i : ℕ) → row_sum opens set i ≡ 0 → set_product opens set ≡ 0
product-none opens set i z = elim (dec_lt i (length opens)) [
  | yes h ↦ no_factor opens set i h (sym (row_sum_in opens set i h) ∙ z)
  | no h ↦ absurd (omega (arith, row_sum_beyond opens set i (omega arith)))
]
