-- The bits of a word: each operation bit by bit, by min, max and -, which omega reads; two words with the same bits are equal.
-- Assumes nothing.
use mathlib.Core.Path.{◌≡◌, refl, sym, ap, ap₂, ◌∙◌, subst}
use mathlib.Core.Logic.{◌≢◌, ◌⊎◌, inl, inr, ⊎_elim}
use mathlib.Core.Bool.{true, false}
use Prim.Native.Nat.{ℕ, zero, suc, ◌+◌, ◌-◌, ◌*◌, ◌/◌, ◌%◌, ◌^◌, ◌≤◌, ◌<◌, min, max}
use native.Mathlib.Nat.{le_trans, le_antisymm, lt_of_lt_of_le, mod-lt, mod-le, mod-eq_of_lt, div-one, div-eq_of_lt, div-mul-le_self, mul_assoc, mul-one}
use native.Mathlib.Nat.{one-mul, mul-le-mul_right, pow-suc}
use native.Mathlib.Numerals.{one-add}
use native.Mathlib.Decide.{ℕ_discrete}
use native.Mathlib.Omega.{arith}
use borrow.Author.Tests.{eq-eqb, ne_eqb, eqb-true, eqb-false}
use lib.Dec.{T, lit<, eqb→eq}
use lib.Pow.{pow_pos, pow_mono, pow-lt, shr-shr}
use lib.Bits.{bit_and, bit_or, and_step, or_step}
use Rattle.words.specs.Word.{bit, has, with, without, low, minus, select}

-- ---- digit by digit

pub bit-lt : (w j : ℕ) → bit w j < 2
unfolding bit
bit-lt w j = mod-lt (w / 2 ^ j) (lit< tt)

pub bit_cases : (w j : ℕ) → (bit w j ≡ 0) ⊎ (bit w j ≡ 1)
bit_cases w j = go (bit w j) (bit-lt w j)
  where
    go : (b : ℕ) → b < 2 → (b ≡ 0) ⊎ (b ≡ 1)
    go zero h = inl refl
    go (suc zero) h = inr refl
    go (suc (suc b)) h = absurd (omega arith)

pub bit-zero : (w : ℕ) → bit w 0 ≡ w % 2
unfolding bit
bit-zero w = ap (◌% 2) (div-one w)

pub bit-suc : (w j : ℕ) → bit w (suc j) ≡ bit (w / 2) j
unfolding bit
bit-suc w j = ap (◌% 2) (ap (λ x. w / 2 ^ x) (sym (one-add j)) ∙ sym (shr-shr w 1 j))

-- the further bits of a word are those of its half
pub bit_half : (w h j : ℕ) → w / 2 ≡ h → bit w (suc j) ≡ bit h j
bit_half w h j e = bit-suc w j ∙ ap (λ x. bit x j) e

pub half_lt : (k w : ℕ) → w < 2 ^ suc k → w / 2 < 2 ^ k
half_lt k w h = omega (arith, pow-suc 2 k)

-- ---- a test of a bit

pub has_true : (w j : ℕ) → bit w j ≡ 1 → has w j ≡ true
unfolding has
has_true w j e = eq-eqb (bit w j) 1 e

pub has_false : (w j : ℕ) → bit w j ≡ 0 → has w j ≡ false
unfolding has
has_false w j e = ne_eqb (bit w j) 1 (λ o. omega arith)

pub bit_one : (w j : ℕ) → has w j ≡ true → bit w j ≡ 1
unfolding has
bit_one w j e = eqb-true (bit w j) 1 e

pub bit-none : (w j : ℕ) → has w j ≡ false → bit w j ≡ 0
unfolding has
bit-none w j e = let n = eqb-false (bit w j) 1 e in omega (arith, bit-lt w j)

pub has_in : (w j : ℕ) → bit w j ≡ 1 → T (has w j)
has_in w j e = subst T (sym (has_true w j e)) tt

pub has-bit : (w j : ℕ) → T (has w j) → bit w j ≡ 1
unfolding has
has-bit w j t = eqb→eq (bit w j) 1 t

-- ---- the empty set, and words of k bits

pub bit_empty : (j : ℕ) → bit 0 j ≡ 0
bit_empty zero = bit-zero 0
bit_empty (suc j) = bit-suc 0 j ∙ bit_empty j

pub bit_high : (k w j : ℕ) → w < 2 ^ k → k ≤ j → bit w j ≡ 0
unfolding bit
bit_high k w j h l = ap (◌% 2) (div-eq_of_lt (lt_of_lt_of_le h (pow_mono l)))

pub bit_one_lt : (k w j : ℕ) → w < 2 ^ k → bit w j ≡ 1 → j < k
bit_one_lt k w j h e = let inside : k ≤ j → ⊥ = λ l. omega (arith, bit_high k w j h l) in omega arith

-- a subset is no larger a number
pub subset_le : (k a b : ℕ) → a < 2 ^ k → ((j : ℕ) → j < k → bit a j ≤ bit b j) → a ≤ b
subset_le zero a b h f = omega arith
subset_le (suc k) a b h f =
    let first = f 0 (omega arith) in
    let rest : a / 2 ≤ b / 2 = subset_le k (a / 2) (b / 2) (half_lt k a h) (λ j l. omega (arith, f (suc j) (omega arith), bit-suc a j, bit-suc b j)) in
    omega (arith, bit-zero a, bit-zero b)

-- two words with the same bits are equal
pub ext : (k a b : ℕ) → a < 2 ^ k → b < 2 ^ k → ((j : ℕ) → j < k → bit a j ≡ bit b j) → a ≡ b
ext k a b ha hb f = le_antisymm (subset_le k a b ha (λ j l. omega (arith, f j l))) (subset_le k b a hb (λ j l. omega (arith, f j l)))

-- ---- the machine's operations

pub bit-and : (a b j : ℕ) → bit (bit_and a b) j ≡ min (bit a j) (bit b j)
bit-and a b zero = omega (arith, bit-zero (bit_and a b), bit-zero a, bit-zero b, and_step a b)
bit-and a b (suc j) =
    bit_half (bit_and a b) (bit_and (a / 2) (b / 2)) j (omega (arith, and_step a b))
    ∙ bit-and (a / 2) (b / 2) j ∙ sym (ap₂ min (bit-suc a j) (bit-suc b j))

-- the slots in both, as a product
pub bit-and-mul : (a b j : ℕ) → bit (bit_and a b) j ≡ bit a j * bit b j
bit-and-mul a b j = bit-and a b j ∙ ⊎_elim (λ z. rw z (omega arith)) (λ o. rw o (omega (arith, bit-lt b j))) (bit_cases a j)

pub bit-or : (a b j : ℕ) → bit (bit_or a b) j ≡ max (bit a j) (bit b j)
bit-or a b zero = omega (arith, bit-zero (bit_or a b), bit-zero a, bit-zero b, or_step a b)
bit-or a b (suc j) =
    bit_half (bit_or a b) (bit_or (a / 2) (b / 2)) j (omega (arith, or_step a b))
    ∙ bit-or (a / 2) (b / 2) j ∙ sym (ap₂ max (bit-suc a j) (bit-suc b j))

-- all k bits turned over
pub bit_not : (k w j : ℕ) → w < 2 ^ k → j < k → bit ((2 ^ k - 1) - w) j ≡ 1 - bit w j
bit_not zero w j h l = absurd (omega arith)
bit_not (suc k) w zero h l = omega (arith, bit-zero ((2 ^ suc k - 1) - w), bit-zero w, pow-suc 2 k)
bit_not (suc k) w (suc j) h l =
    bit_half ((2 ^ suc k - 1) - w) ((2 ^ k - 1) - w / 2) j (omega (arith, pow-suc 2 k))
    ∙ bit_not k (w / 2) j (half_lt k w h) (omega arith) ∙ ap (1 -◌) (sym (bit-suc w j))

pub bit-minus : (a b j : ℕ) → b < 2 ^ 64 → j < 64 → bit (minus a b) j ≡ min (bit a j) (1 - bit b j)
unfolding minus
bit-minus a b j h l = bit-and a ((2 ^ 64 - 1) - b) j ∙ ap (min (bit a j)) (bit_not 64 b j h l)

-- a bit of a selection, as a function g of the bit that selects
pub bit-select : (a b c j : ℕ) (g : ℕ → ℕ) → b < 2 ^ 64 → j < 64 → bit a j ≡ g 0 → bit c j ≡ g 1 → bit (select a b c) j ≡ g (bit b j)
unfolding select
bit-select a b c j g h l ea ec =
    let bits = bit-or (minus a b) (bit_and c b) j in
    let from-a = bit-minus a b j h l in
    let from-c = bit-and c b j in
    ⊎_elim
    (λ z. let e : bit (select a b c) j ≡ bit a j = omega (arith, bit-lt a j) in e ∙ ea ∙ ap g (sym z))
    (λ o. let e : bit (select a b c) j ≡ bit c j = omega (arith, bit-lt c j) in e ∙ ec ∙ ap g (sym o))
    (bit_cases b j)

-- ---- one slot alone

pub bit_single : (j : ℕ) → bit (2 ^ j) j ≡ 1
bit_single zero = bit-zero 1
bit_single (suc j) = bit_half (2 ^ suc j) (2 ^ j) j (omega (arith, pow-suc 2 j)) ∙ bit_single j

pub bit_single_other : (j i : ℕ) → i ≢ j → bit (2 ^ j) i ≡ 0
bit_single_other zero zero f = absurd (f refl)
bit_single_other zero (suc i) f = bit-suc 1 i ∙ bit_empty i
bit_single_other (suc j) zero f = omega (arith, bit-zero (2 ^ suc j), pow-suc 2 j)
bit_single_other (suc j) (suc i) f = bit_half (2 ^ suc j) (2 ^ j) i (omega (arith, pow-suc 2 j)) ∙ bit_single_other j i (λ e. f (ap suc e))

-- ---- the low slots

pub low-lt : (n : ℕ) → low n < 2 ^ n
unfolding low
low-lt n = omega (arith, pow_pos n)

pub bit-low : (n j : ℕ) → j < n → bit (low n) j ≡ 1
unfolding low
bit-low zero j l = absurd (omega arith)
bit-low (suc n) zero l = omega (arith, bit-zero (2 ^ suc n - 1), pow-suc 2 n, pow_pos n)
bit-low (suc n) (suc j) l = bit_half (2 ^ suc n - 1) (2 ^ n - 1) j (omega (arith, pow-suc 2 n, pow_pos n)) ∙ bit-low n j (omega arith)

pub bit-low_high : (n j : ℕ) → n ≤ j → bit (low n) j ≡ 0
bit-low_high n j l = bit_high n (low n) j (low-lt n) l

-- ---- one slot more or less

bit_value_le : (w j : ℕ) → bit w j * 2 ^ j ≤ w
unfolding bit
bit_value_le w j = le_trans (mul-le-mul_right (2 ^ j) (mod-le (w / 2 ^ j) 2)) (div-mul-le_self w (2 ^ j))

shifted : (b j : ℕ) → b * 2 ^ suc j ≡ b * 2 ^ j * 2
shifted b j = ap (b *◌) (pow-suc 2 j) ∙ sym (mul_assoc b (2 ^ j) 2)

pub without-zero : (w : ℕ) → without w 0 ≡ w / 2 * 2
unfolding without
without-zero w = ap (w -◌) (mul-one (bit w 0) ∙ bit-zero w) ∙ omega arith

pub without-suc : (w j : ℕ) → without w (suc j) ≡ without (w / 2) j * 2 + w % 2
unfolding without
without-suc w j = ap (w -◌) (ap (◌* 2 ^ suc j) (bit-suc w j) ∙ shifted (bit (w / 2) j) j) ∙ omega (arith, bit_value_le (w / 2) j)

pub with-zero : (w : ℕ) → with w 0 ≡ w / 2 * 2 + 1
unfolding with
with-zero w = ap (w +◌) (mul-one (1 - bit w 0) ∙ ap (1 -◌) (bit-zero w)) ∙ omega arith

pub with-suc : (w j : ℕ) → with w (suc j) ≡ with (w / 2) j * 2 + w % 2
unfolding with
with-suc w j = ap (w +◌) (ap (λ x. (1 - x) * 2 ^ suc j) (bit-suc w j) ∙ shifted (1 - bit (w / 2) j) j) ∙ omega arith

pub bit-without : (w j : ℕ) → bit (without w j) j ≡ 0
bit-without w zero = omega (arith, bit-zero (without w 0), without-zero w)
bit-without w (suc j) = bit_half (without w (suc j)) (without (w / 2) j) j (omega (arith, without-suc w j)) ∙ bit-without (w / 2) j

pub bit-without_other : (w j i : ℕ) → i ≢ j → bit (without w j) i ≡ bit w i
bit-without_other w zero zero f = absurd (f refl)
bit-without_other w zero (suc i) f = bit_half (without w 0) (w / 2) i (omega (arith, without-zero w)) ∙ sym (bit-suc w i)
bit-without_other w (suc j) zero f = omega (arith, bit-zero (without w (suc j)), without-suc w j, bit-zero w)
bit-without_other w (suc j) (suc i) f =
    bit_half (without w (suc j)) (without (w / 2) j) i (omega (arith, without-suc w j))
    ∙ bit-without_other (w / 2) j i (λ e. f (ap suc e)) ∙ sym (bit-suc w i)

pub bit-with : (w j : ℕ) → bit (with w j) j ≡ 1
bit-with w zero = omega (arith, bit-zero (with w 0), with-zero w)
bit-with w (suc j) = bit_half (with w (suc j)) (with (w / 2) j) j (omega (arith, with-suc w j)) ∙ bit-with (w / 2) j

pub bit-with_other : (w j i : ℕ) → i ≢ j → bit (with w j) i ≡ bit w i
bit-with_other w zero zero f = absurd (f refl)
bit-with_other w zero (suc i) f = bit_half (with w 0) (w / 2) i (omega (arith, with-zero w)) ∙ sym (bit-suc w i)
bit-with_other w (suc j) zero f = omega (arith, bit-zero (with w (suc j)), with-suc w j, bit-zero w)
bit-with_other w (suc j) (suc i) f =
    bit_half (with w (suc j)) (with (w / 2) j) i (omega (arith, with-suc w j))
    ∙ bit-with_other (w / 2) j i (λ e. f (ap suc e)) ∙ sym (bit-suc w i)

pub without-le : (w j : ℕ) → without w j ≤ w
unfolding without
without-le w j = omega arith

pub without-add : (w j : ℕ) → bit w j ≡ 1 → 2 ^ j + without w j ≡ w
unfolding without
without-add w j e =
    let one : bit w j * 2 ^ j ≡ 2 ^ j = ap (◌* 2 ^ j) e ∙ one-mul (2 ^ j) in
    omega (arith, bit_value_le w j)

pub without-less : (w j : ℕ) → bit w j ≡ 1 → without w j < w
without-less w j e = omega (arith, without-add w j e, pow_pos j)

pub with-lt : (k w j : ℕ) → w < 2 ^ k → j < k → with w j < 2 ^ k
with-lt zero w j h l = absurd (omega arith)
with-lt (suc k) w zero h l = omega (arith, with-zero w, pow-suc 2 k)
with-lt (suc k) w (suc j) h l = omega (arith, with-suc w j, pow-suc 2 k, with-lt k (w / 2) j (half_lt k w h) (omega arith))

-- ---- as the machine finds them

pub shl_one : (k j : ℕ) → j < k → 1 * 2 ^ j % 2 ^ k ≡ 2 ^ j
shl_one k j l = ap (◌% 2 ^ k) (one-mul (2 ^ j)) ∙ mod-eq_of_lt (pow-lt l)

-- slot by slot: j itself, and the others
pub at_slot : (P : ℕ → Type 0) (j : ℕ) → P j → ((i : ℕ) → i ≢ j → P i) → (i : ℕ) → P i
at_slot P j p q i = elim (ℕ_discrete i j) [ yes e ↦ subst P (sym e) p | no f ↦ q i f ]
