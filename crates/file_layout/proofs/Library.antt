-- What the library computes of some bytes, in the definitions' words. Assumes nothing.
use mathlib.Core.Path.{◌≡◌, refl, sym, ap, ap₂, ◌∙◌}
use mathlib.Core.List.{List, [], ◌∷◌, ◌++◌}
use native.Mathlib.Nat.{div-div-eq-div-mul, pow-suc}
use Prim.Native.Nat.{ℕ, zero, suc, ◌+◌, ◌*◌, ◌/◌, ◌%◌, ◌^◌, ◌≤◌}
use native.Mathlib.Omega.{arith}
use lib.ListN.{length, drop, replicate}
use Rattle.std.specs.List.{sum_by}
use Rattle.std.specs.Int.{w64, from_le_bytes, byte_at, bytes_low_first}
use Rattle.std.proofs.lemmas.List.Sums.{sum_by-cons}
use Rattle.words.specs.Sum.{total}
use Rattle.model.specs.File.{from_bytes, low_bytes}

pub sum_is : (bytes : List ℕ) → total (λ b. b) bytes ≡ sum_by (λ b. b) bytes
unfolding total
sum_is [] = refl
sum_is (b ∷ bytes) = ap (b +◌) (sum_is bytes) ∙ sym (sum_by-cons (λ b. b) b bytes)

-- zeros after the bytes count for nothing
pub number_is : (bytes : List ℕ) → length bytes ≤ 8 → from_le_bytes w64 (bytes ++ drop (length bytes) (replicate 8 0)) ≡ from_bytes bytes
unfolding from_bytes
number_is [] h = refl
number_is (a ∷ []) h = omega arith
number_is (a ∷ b ∷ []) h = omega arith
number_is (a ∷ b ∷ c ∷ []) h = omega arith
number_is (a ∷ b ∷ c ∷ d ∷ []) h = omega arith
number_is (a ∷ b ∷ c ∷ d ∷ e ∷ []) h = omega arith
number_is (a ∷ b ∷ c ∷ d ∷ e ∷ f ∷ []) h = omega arith
number_is (a ∷ b ∷ c ∷ d ∷ e ∷ f ∷ g ∷ []) h = omega arith
number_is (a ∷ b ∷ c ∷ d ∷ e ∷ f ∷ g ∷ i ∷ []) h = omega arith
number_is (a ∷ b ∷ c ∷ d ∷ e ∷ f ∷ g ∷ i ∷ j ∷ bytes) h = absurd (omega arith)

-- byte i of a number, and k bytes from byte i on
at_byte : (i x : ℕ) → x / 256 ^ i % 256 ≡ byte_at i x
at_byte zero x = omega arith
at_byte (suc i) x = refl

low_from : (k i x : ℕ) → low_bytes k (x / 256 ^ i) ≡ bytes_low_first i k x
unfolding low_bytes
low_from zero i x = refl
low_from (suc k) i x =
    let next : x / 256 ^ i / 256 ≡ x / 256 ^ suc i = div-div-eq-div-mul x (256 ^ i) 256 ∙ ap (x /◌) (sym (pow-suc 256 i)) in
    ap₂ ◌∷◌ (at_byte i x) (ap (low_bytes k) next ∙ low_from k (suc i) x)

pub low_is : (k x : ℕ) → low_bytes k x ≡ bytes_low_first 0 k x
low_is k x = let whole : x / 256 ^ 0 ≡ x = omega arith in ap (low_bytes k) (sym whole) ∙ low_from k 0 x
