-- A set with one slot more, as a sum: how many slots it has, and how many of a word's. Assumes nothing.
use mathlib.Core.Path.{◌≡◌, sym, ap, ◌∙◌}
use Prim.Native.Nat.{ℕ, zero, suc, ◌+◌, ◌/◌, ◌%◌, ◌^◌, min}
use native.Mathlib.Nat.{pow-suc}
use native.Mathlib.Omega.{arith}
use lib.Bits.{bit_and, and_step}
use lib.Count.{ones, ones_step}
use Rattle.words.specs.Word.{bit, with}
use Rattle.words.proofs.Bits.{bit-zero, bit-suc}
use Rattle.words.proofs.SetLaws.{ones-with}

pub ones-add_single : (w j : ℕ) → bit w j ≡ 0 → ones (2 ^ j + w) ≡ suc (ones w)
unfolding with
ones-add_single w j e = let more : 2 ^ j + w ≡ with w j = rw e (omega arith) in ap ones more ∙ ones-with w j e

ones-and_step : (a b : ℕ) → ones (bit_and a b) ≡ min (a % 2) (b % 2) + ones (bit_and (a / 2) (b / 2))
ones-and_step a b =
    let half : bit_and a b / 2 ≡ bit_and (a / 2) (b / 2) = omega (arith, and_step a b) in
    omega (arith, ones_step (bit_and a b), and_step a b, ap ones half)

-- how many slots of w are in a set, if slot j is added to it
pub ones-and_single : (w s j : ℕ) → bit s j ≡ 0 → ones (bit_and w (2 ^ j + s)) ≡ ones (bit_and w s) + bit w j
ones-and_single w s zero e =
    let half : (1 + s) / 2 ≡ s / 2 = omega (arith, bit-zero s) in
    omega (arith, ones-and_step w (1 + s), ones-and_step w s, ap (λ x. ones (bit_and (w / 2) x)) half, bit-zero w, bit-zero s)
ones-and_single w s (suc j) e =
    let half : (2 ^ suc j + s) / 2 ≡ 2 ^ j + s / 2 = omega (arith, pow-suc 2 j) in
    let rest = ones-and_single (w / 2) (s / 2) j (sym (bit-suc s j) ∙ e) in
    omega (arith, ones-and_step w (2 ^ suc j + s), ones-and_step w s, ap (λ x. ones (bit_and (w / 2) x)) half, bit-suc w j, pow-suc 2 j)
