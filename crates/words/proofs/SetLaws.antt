-- Words as sets: sizes, subsets, the lowest slot. Assumes nothing.
use mathlib.Core.Path.{◌≡◌, refl, sym, ap, ap₂, ◌∙◌}
use mathlib.Core.Logic.{◌≢◌, inl, inr, ⊎_elim}
use mathlib.Core.Bool.{not, ◌||◌}
use Prim.Native.Nat.{ℕ, zero, suc, ◌+◌, ◌-◌, ◌*◌, ◌/◌, ◌%◌, ◌^◌, ◌≤◌, ◌<◌, min, max}
use native.Mathlib.Nat.{lt_of_lt_of_le, lt_of_le_of_lt, zero-mul, one-mul, mul_assoc}
use native.Mathlib.Decide.{ℕ_discrete, dec_lt}
use native.Mathlib.Omega.{arith}
use borrow.Author.Tests.{eq-eqb, ne_eqb, le-leb, lt-leb}
use lib.Arith.{lt-one}
use lib.Dec.{eqb, leb}
use lib.Pow.{pow_pos, pow_mono, pow-lt}
use lib.Bits.{bit_and, bit_or, and_lt, or_lt, and_le_l, and_le_r, or_zero_l, or_add_and}
use lib.Count.{ones, ones_step, ones-ones, count_trailing_zeros, under}
use Rattle.words.specs.Word.{bit, with, without, low, minus, lowest}
use Rattle.words.specs.Sum.{sum}
use Rattle.words.proofs.Bits.{ext, half_lt, bit-lt, bit_cases, bit-zero, bit-suc, bit_half, bit_empty, bit_high, bit-and, bit-and-mul, bit-or, bit_not}
use Rattle.words.proofs.Bits.{bit-minus, bit-low, bit-low_high, low-lt, bit_single, bit_single_other, bit-with, bit-with_other, bit-without, at_slot}
use Rattle.words.proofs.Bits.{bit-without_other, without-zero, without-suc, without-le, with-zero, with-suc, with-lt}
use Rattle.words.proofs.Sums.{sum_front, sum_cong, sum-le, sum-add, sum-none, sum_pick}

-- ---- sizes

-- the size of a word is the number of its slots
pub ones-sum : (k w : ℕ) → w < 2 ^ k → ones w ≡ sum (bit w) k
unfolding ones sum
ones-sum zero w h = ap ones (lt-one h)
ones-sum (suc k) w h =
    ones_step w
    ∙ ap₂ ◌+◌ (sym (bit-zero w)) (ones-sum k (w / 2) (half_lt k w h) ∙ sum_cong (bit (w / 2)) (λ i. bit w (suc i)) k (λ i l. sym (bit-suc w i)))
    ∙ sym (sum_front (bit w) k)

pub ones_low : (n : ℕ) → ones (low n) ≡ n
unfolding low
ones_low n = ones-ones n

pub ones-without : (w j : ℕ) → bit w j ≡ 1 → ones w ≡ suc (ones (without w j))
ones-without w zero e =
    let half : without w 0 / 2 ≡ w / 2 = omega (arith, without-zero w) in
    omega (arith, ones_step w, ones_step (without w 0), without-zero w, ap ones half, bit-zero w)
ones-without w (suc j) e =
    let half : without w (suc j) / 2 ≡ without (w / 2) j = omega (arith, without-suc w j) in
    omega (arith, ones_step w, ones_step (without w (suc j)), without-suc w j, ap ones half, ones-without (w / 2) j (sym (bit-suc w j) ∙ e))

pub ones-with : (w j : ℕ) → bit w j ≡ 0 → ones (with w j) ≡ suc (ones w)
ones-with w zero e =
    let half : with w 0 / 2 ≡ w / 2 = omega (arith, with-zero w) in
    omega (arith, ones_step w, ones_step (with w 0), with-zero w, ap ones half, bit-zero w)
ones-with w (suc j) e =
    let half : with w (suc j) / 2 ≡ with (w / 2) j = omega (arith, with-suc w j) in
    omega (arith, ones_step w, ones_step (with w (suc j)), with-suc w j, ap ones half, ones-with (w / 2) j (sym (bit-suc w j) ∙ e))

-- two words have as many slots together as two others that have as many at each
ones_together : (k a b c d : ℕ) → a < 2 ^ k → b < 2 ^ k → c < 2 ^ k → d < 2 ^ k → ((j : ℕ) → j < k → bit a j + bit b j ≡ bit c j + bit d j)
    → ones a + ones b ≡ ones c + ones d
ones_together k a b c d ha hb hc hd f =
    let same = sum_cong (λ j. bit a j + bit b j) (λ j. bit c j + bit d j) k f in
    rw (ones-sum k a ha, ones-sum k b hb, ones-sum k c hc, ones-sum k d hd, ← sum-add (bit a) (bit b) k, ← sum-add (bit c) (bit d) k) same

-- inclusion and exclusion
pub ones-or-and : (k a b : ℕ) → a < 2 ^ k → b < 2 ^ k → ones (bit_or a b) + ones (bit_and a b) ≡ ones a + ones b
ones-or-and k a b ha hb =
    ones_together k (bit_or a b) (bit_and a b) a b (or_lt k a b ha hb) (and_lt k a b ha hb) ha hb (λ j l. omega (arith, bit-or a b j, bit-and a b j))

pub minus-le : (a b : ℕ) → minus a b ≤ a
unfolding minus
minus-le a b = and_le_l a ((2 ^ 64 - 1) - b)

pub ones-minus : (a b : ℕ) → a < 2 ^ 64 → b < 2 ^ 64 → ones (minus a b) + ones (bit_and a b) ≡ ones a
unfolding ones
ones-minus a b ha hb =
    let both =
    ones_together 64 (minus a b) (bit_and a b) a 0 (lt_of_le_of_lt (minus-le a b) ha) (and_lt 64 a b ha hb) ha (pow_pos 64)
    (λ j l. omega (arith, bit-minus a b j hb l, bit-and a b j, bit-lt a j, bit-lt b j, bit_empty j)) in
    omega (arith, both)

-- ---- sums over the slots of a word

module _ (f : ℕ → ℕ) (k : ℕ) where
  pub sum_empty : sum (λ j. bit 0 j * f j) k ≡ 0
  sum_empty = sum-none _ k (λ j l. ap (◌* f j) (bit_empty j) ∙ zero-mul (f j))

  pub sum-and : (a b : ℕ) → sum (λ j. bit (bit_and a b) j * f j) k ≡ sum (λ j. bit a j * (bit b j * f j)) k
  sum-and a b = sum_cong _ _ k (λ j l. ap (◌* f j) (bit-and-mul a b j) ∙ mul_assoc (bit a j) (bit b j) (f j))

  -- one slot apart
  pub sum-without : (w j : ℕ) → j < k → bit w j ≡ 1 → sum (λ i. bit w i * f i) k ≡ f j + sum (λ i. bit (without w j) i * f i) k
  sum-without w j l o =
      sum_pick (λ i. bit w i * f i) (λ i. bit (without w j) i * f i) k j l
      (ap (◌* f j) (bit-without w j) ∙ zero-mul (f j)) (λ i d. ap (◌* f i) (bit-without_other w j i d))
      ∙ ap (◌+ sum (λ i. bit (without w j) i * f i) k) (ap (◌* f j) o ∙ one-mul (f j))

-- ---- subsets

-- one slot more is the union with it alone
pub bit-with-max : (w j i : ℕ) → bit (with w j) i ≡ max (bit w i) (bit (2 ^ j) i)
bit-with-max w j =
    at_slot (λ i. bit (with w j) i ≡ max (bit w i) (bit (2 ^ j) i)) j
    (omega (arith, bit-with w j, bit_single j, bit-lt w j))
    (λ i d. omega (arith, bit-with_other w j i d, bit_single_other j i d))

pub bit-with-le : (w j i : ℕ) → bit w i ≤ bit (with w j) i
bit-with-le w j = at_slot (λ i. bit w i ≤ bit (with w j) i) j (omega (arith, bit-with w j, bit-lt w j)) (λ i d. omega (arith, bit-with_other w j i d))

pub bit-without-le : (w j i : ℕ) → bit (without w j) i ≤ bit w i
bit-without-le w j = at_slot (λ i. bit (without w j) i ≤ bit w i) j (omega (arith, bit-without w j)) (λ i d. omega (arith, bit-without_other w j i d))

pub empty : (k w : ℕ) → w < 2 ^ k → ((j : ℕ) → j < k → bit w j ≡ 0) → w ≡ 0
empty k w h f = ext k w 0 h (pow_pos k) (λ j l. f j l ∙ sym (bit_empty j))

pub ones_none : (k w : ℕ) → w < 2 ^ k → ones w ≡ 0 → w ≡ 0
ones_none k w h e = empty k w h (λ j l. ⊎_elim (λ z. z) (λ o. absurd (omega (arith, ones-without w j o))) (bit_cases w j))

-- a word of one slot: no two are in it, and back
pub one_slot : (w j i : ℕ) → ones w ≡ 1 → bit w j ≡ 1 → bit w i ≡ 1 → i ≡ j
one_slot w j i e a =
    at_slot (λ i. bit w i ≡ 1 → i ≡ j) j (λ b. refl)
    (λ i d b. absurd (omega (arith, ones-without w j a, ones-without (without w j) i (bit-without_other w j i d ∙ b)))) i

pub slot_alone : (k w j : ℕ) → w < 2 ^ k → bit w j ≡ 1 → ((i : ℕ) → bit w i ≡ 1 → i ≡ j) → ones w ≡ 1
unfolding ones
slot_alone k w j h a f =
    let none : without w j ≡ 0 =
    empty k (without w j) (omega (arith, without-le w j)) (λ i l.
    at_slot (λ i. bit (without w j) i ≡ 0) j (bit-without w j)
    (λ i d. bit-without_other w j i d ∙ ⊎_elim (λ z. z) (λ b. absurd (d (f i b))) (bit_cases w i)) i) in
    ones-without w j a ∙ ap (λ x. suc (ones x)) none

pub ones_subset : (k a b : ℕ) → a < 2 ^ k → b < 2 ^ k → ((j : ℕ) → j < k → bit a j ≤ bit b j) → ones a ≤ ones b
ones_subset k a b ha hb f = omega (arith, ones-sum k a ha, ones-sum k b hb, sum-le (bit a) (bit b) k f)

-- a slot in b and not in a: a subset of b has one slot less at least
pub ones_proper : (k a b j : ℕ) → a < 2 ^ k → b < 2 ^ k → ((i : ℕ) → i < k → bit a i ≤ bit b i) → bit a j ≡ 0 → bit b j ≡ 1 → ones a < ones b
ones_proper k a b j ha hb f e o =
    let s =
    ones_subset k a (without b j) ha (omega (arith, without-le b j))
    (λ i l.
    at_slot (λ i. bit a i ≤ bit b i → bit a i ≤ bit (without b j) i) j (λ m. omega arith) (λ i d m. omega (arith, bit-without_other b j i d)) i (f i l)) in
    omega (arith, ones-without b j o)

-- a subset of the same size is the whole
pub subset_eq : (k a b : ℕ) → a < 2 ^ k → b < 2 ^ k → ((j : ℕ) → j < k → bit a j ≤ bit b j) → ones a ≡ ones b → a ≡ b
subset_eq k a b ha hb f e =
    ext k a b ha hb (λ j l. elim (bit_cases a j) [
      | inl x ↦ elim (bit_cases b j) [ inl y ↦ x ∙ sym y | inr y ↦ absurd (omega (arith, ones_proper k a b j ha hb f x y)) ]
      | inr x ↦ omega (arith, f j l, bit-lt b j)
    ])

-- no slot from n on
pub high_empty : (k w n : ℕ) → w < 2 ^ k → ((j : ℕ) → n ≤ j → j < k → bit w j ≡ 0) → w < 2 ^ n
high_empty k w n h f =
    let same : w ≡ bit_and w (low n) = ext k w (bit_and w (low n)) h (lt_of_le_of_lt (and_le_l w (low n)) h) (λ j l.
    let b = bit-and w (low n) j in elim (dec_lt j n) [ yes d ↦ omega (arith, bit-low n j d, bit-lt w j) | no d ↦ omega (arith, f j (omega arith) l) ]) in
    omega (arith, same, and_le_r w (low n), low-lt n)

-- the slots of a from n on
pub bit-from : (a n j : ℕ) → n ≤ 64 → j < 64 → n ≤ j → bit (minus a (low n)) j ≡ bit a j
bit-from a n j h l g = omega (arith, bit-minus a (low n) j (lt_of_lt_of_le (low-lt n) (pow_mono h)) l, bit-low_high n j g, bit-lt a j)

pub bit-not-from : (a n j : ℕ) → n ≤ 64 → j < n → bit (minus a (low n)) j ≡ 0
bit-not-from a n j h g = omega (arith, bit-minus a (low n) j (lt_of_lt_of_le (low-lt n) (pow_mono h)) (omega arith), bit-low n j g)

-- w has a slot from n on
pub has-from : (n w : ℕ) → n ≤ 64 → w < 2 ^ 64 → not (eqb (minus w (low n)) 0) ≡ leb (2 ^ n) w
has-from n w h l = elim (dec_lt w (2 ^ n)) [
  | yes a ↦
      let none : (j : ℕ) → j < 64 → bit (minus w (low n)) j ≡ 0 = λ j b. elim (dec_lt j n)
      [ yes d ↦ bit-not-from w n j h d | no d ↦ bit-from w n j h b (omega arith) ∙ bit_high n w j a (omega arith) ] in
      rw (eq-eqb (minus w (low n)) 0 (empty 64 (minus w (low n)) (lt_of_le_of_lt (minus-le w (low n)) l) none), lt-leb (2 ^ n) w a)
  | no a ↦
      let high : minus w (low n) ≡ 0 → (j : ℕ) → n ≤ j → j < 64 → bit w j ≡ 0 = λ e j d b. sym (bit-from w n j h b d) ∙ ap (λ x. bit x j) e ∙ bit_empty j in
      rw (ne_eqb (minus w (low n)) 0 (λ e. a (high_empty 64 w n l (high e))), le-leb (2 ^ n) w (omega arith))
]

-- a union has a slot if one of the two has
pub or_some : (a b : ℕ) → not (eqb (bit_or a b) 0) ≡ (not (eqb a 0) || not (eqb b 0))
or_some a b = elim (ℕ_discrete a 0)
    [ yes e ↦ rw (e, or_zero_l b) | no d ↦ rw (ne_eqb a 0 d, ne_eqb (bit_or a b) 0 (λ z. d (omega (arith, or_add_and a b, and_le_r a b)))) ]

-- ---- one slot more or less, as the machine makes them

pub or_single : (k w j : ℕ) → w < 2 ^ k → j < k → bit_or w (2 ^ j) ≡ with w j
or_single k w j h l =
    ext k (bit_or w (2 ^ j)) (with w j) (or_lt k w (2 ^ j) h (pow-lt l)) (with-lt k w j h l) (λ i g. bit-or w (2 ^ j) i ∙ sym (bit-with-max w j i))

pub and-not_single : (k w j : ℕ) → w < 2 ^ k → j < k → bit_and w ((2 ^ k - 1) - 2 ^ j) ≡ without w j
and-not_single k w j h l =
    let rest = (2 ^ k - 1) - 2 ^ j in
    ext k (bit_and w rest) (without w j) (and_lt k w rest h (omega (arith, pow_pos k))) (omega (arith, without-le w j))
    (λ i g. bit-and w rest i ∙ ap (min (bit w i)) (bit_not k (2 ^ j) i (pow-lt l) g)
    ∙ at_slot (λ i. min (bit w i) (1 - bit (2 ^ j) i) ≡ bit (without w j) i) j (omega (arith, bit_single j, bit-without w j))
    (λ i f. omega (arith, bit-lt w i, bit_single_other j i f, bit-without_other w j i f)) i)

-- ---- the lowest slot

-- what trailing zeros find in a word of k bits, and what is left when one is taken off
record Lowest (k w j : ℕ) : Type 0 where
  pub below : j < k
  pub inside : bit w j ≡ 1
  pub least : (i : ℕ) → i < j → bit w i ≡ 0
  pub cleared : bit (w - 1) j ≡ 0
  pub above : (i : ℕ) → j < i → bit (w - 1) i ≡ bit w i

even_step : (k w t : ℕ) → w % 2 ≡ 0 → w ≢ 0 → Lowest k (w / 2) t → Lowest (suc k) w (suc t)
even_step k w t e z l =
    let half : (w - 1) / 2 ≡ w / 2 - 1 = omega arith in
    record {
      below = omega (arith, l.below);
      inside = bit-suc w t ∙ l.inside;
      least = least_at;
      cleared = bit_half (w - 1) (w / 2 - 1) t half ∙ l.cleared;
      above = above_at half;
    }
  where
    least_at : (i : ℕ) → i < suc t → bit w i ≡ 0
    least_at zero h = bit-zero w ∙ e
    least_at (suc i) h = bit-suc w i ∙ l.least i (omega arith)

    above_at : (w - 1) / 2 ≡ w / 2 - 1 → (i : ℕ) → suc t < i → bit (w - 1) i ≡ bit w i
    above_at half zero h = absurd (omega arith)
    above_at half (suc i) h = bit_half (w - 1) (w / 2 - 1) i half ∙ l.above i (omega arith) ∙ sym (bit-suc w i)

odd_step : (k w : ℕ) → w % 2 ≡ 1 → Lowest (suc k) w 0
odd_step k w e =
    record {
      below = omega arith;
      inside = bit-zero w ∙ e;
      least = λ i h. absurd (omega arith);
      cleared = omega (arith, bit-zero (w - 1));
      above = above_at;
    }
  where
    above_at : (i : ℕ) → 0 < i → bit (w - 1) i ≡ bit w i
    above_at zero h = absurd (omega arith)
    above_at (suc i) h = let half : (w - 1) / 2 ≡ w / 2 = omega arith in bit_half (w - 1) (w / 2) i half ∙ sym (bit-suc w i)

trailing : (k w : ℕ) → w ≢ 0 → w < 2 ^ k → Lowest k w (count_trailing_zeros k w)
unfolding count_trailing_zeros
trailing zero w z h = absurd (z (lt-one h))
trailing (suc k) w z h = go (w % 2) refl (λ e. trailing k (w / 2) (λ y. z (omega arith)) (half_lt k w h))
  where
    go : (r : ℕ) → w % 2 ≡ r → (w % 2 ≡ 0 → Lowest k (w / 2) (count_trailing_zeros k (w / 2))) → Lowest (suc k) w (under r (count_trailing_zeros k (w / 2)))
    go zero e rest = even_step k w (count_trailing_zeros k (w / 2)) e z (rest e)
    go (suc r) e rest = odd_step k w (omega arith)

module _ (w : ℕ) (z : w ≢ 0) (h : w < 2 ^ 64) where
  lowest_found : Lowest 64 w (lowest w)
  unfolding lowest
  lowest_found = trailing 64 w z h

  pub lowest-lt : lowest w < 64
  lowest-lt = lowest_found.below

  pub bit-lowest : bit w (lowest w) ≡ 1
  bit-lowest = lowest_found.inside

  pub below-lowest : (i : ℕ) → i < lowest w → bit w i ≡ 0
  below-lowest = lowest_found.least

  -- w & (w - 1) is w without its lowest slot
  pub and_pred : bit_and w (w - 1) ≡ without w (lowest w)
  and_pred =
      ext 64 (bit_and w (w - 1)) (without w (lowest w)) (omega (arith, and_le_l w (w - 1))) (omega (arith, without-le w (lowest w))) (λ i l.
      bit-and w (w - 1) i
      ∙ at_slot (λ i. min (bit w i) (bit (w - 1) i) ≡ bit (without w (lowest w)) i) (lowest w)
      (omega (arith, lowest_found.cleared, bit-without w (lowest w)))
      (λ i d. elim (dec_lt i (lowest w)) [
        | yes g ↦ omega (arith, below-lowest i g, bit-without_other w (lowest w) i d)
        | no g ↦ omega (arith, lowest_found.above i (omega arith), bit-without_other w (lowest w) i d)
      ]) i)

-- h is the lowest slot that is in both words
pub record Common (a b h : ℕ) : Type 0 where
  pub below : h < 64
  pub left : bit a h ≡ 1
  pub right : bit b h ≡ 1
  pub least : (k : ℕ) → k < h → bit a k ≡ 1 → bit b k ≡ 0

-- r has the slots that are in both
pub common : {r a b h : ℕ} → ((k : ℕ) → k < 64 → bit r k ≡ min (bit a k) (bit b k)) → r < 2 ^ 64 → r ≢ 0 → h ≡ lowest r → Common a b h
common {r} {a} {b} both l z e =
    let below = lowest-lt r z l in
    let here = both (lowest r) below in
    let one = bit-lowest r z l in
    rw e (record {
      below = below;
      left = omega (arith, bit-lt a (lowest r));
      right = omega (arith, bit-lt b (lowest r));
      least = λ k g c. omega (arith, below-lowest r z l k g, both k (omega arith), bit-lt b k);
    })
