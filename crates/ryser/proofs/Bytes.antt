-- Bytes side by side: what they add up to, and the test for a byte that is 0. Assumes nothing.
use Rattle.std.proofs.Common.{◌≡◌, ℕ, zero, suc, ◌+◌, ◌-◌, ◌*◌, ◌/◌, ◌%◌, ◌^◌, ◌<◌, not, ◌||◌, eqb, List, [], ◌∷◌, map, length, sym, refl, ap, ◌∙◌, ap₂, arith, pow-add, eq-eqb, ne_eqb}
use native.Mathlib.Decide.{ℕ_discrete}
use lib.Bits.{bit_and, and_block, and_zero_r}
use Rattle.model.specs.Lists.{any}
use Rattle.ryser.specs.Bytes.{packed, bytes, some_zero, Small}

-- ---- packed and taken apart

pub packed-add : (f g : ℕ → ℕ) (l : List ℕ) → packed (map (λ i. f i + g i) l) ≡ packed (map f l) + packed (map g l)
unfolding packed
packed-add f g [] = refl
packed-add f g (i ∷ l) = omega (arith, packed-add f g l)

pub packed_lt : (l : List ℕ) → Small l → packed l < 2 ^ (8 * length l)
unfolding packed
packed_lt [] s = omega arith
packed_lt (b ∷ l) s =
    let eight : 8 * suc (length l) ≡ 8 + 8 * length l = omega arith in
    omega (arith, s.0, packed_lt l s.1, ap (2 ^◌) eight, pow-add 2 8 (8 * length l))

pub bytes_packed : (l : List ℕ) → Small l → bytes (length l) (packed l) ≡ l
unfolding packed bytes
bytes_packed [] s = refl
bytes_packed (b ∷ l) s =
    let low : (b + 256 * packed l) % 256 ≡ b = omega (arith, s.0) in
    let high : (b + 256 * packed l) / 256 ≡ packed l = omega (arith, s.0) in
    ap₂ ◌∷◌ low (ap (bytes (length l)) high ∙ bytes_packed l s.1)

-- of eight bytes the four low ones
pub small_four : (x : ℕ) → Small (bytes 8 x) → Small (bytes 4 x)
unfolding bytes
small_four x s = (s.0, (s.1.0, (s.1.1.0, (s.1.1.1.0, tt))))

-- ---- no byte is 0

-- c in each of k bytes
unfoldable pub each : ℕ → ℕ → ℕ
each c zero = 0
each c (suc k) = c + 256 * each c k

-- 127 can be added to each byte
pub room : (x : ℕ) → x < 2 ^ 64 → Small (bytes 8 x) → x + each 127 8 < 2 ^ 64
unfolding bytes each
room x h s = omega (arith, s.1.1.1.1.1.1.1.0)

same_above : (a b r : ℕ) → eqb (a * 256 + r) (b * 256 + r) ≡ eqb a b
same_above a b r = elim (ℕ_discrete a b) [
  | yes e ↦ eq-eqb _ _ (ap (λ x. x * 256 + r) e) ∙ sym (eq-eqb a b e)
  | no d ↦ ne_eqb _ _ (λ (e : a * 256 + r ≡ b * 256 + r). d (omega arith)) ∙ sym (ne_eqb a b d)
]

pub full_bytes : (k x : ℕ) → Small (bytes k x) → eqb (bit_and (x + each 127 k) (each 128 k)) (each 128 k) ≡ not (some_zero (bytes k x))
unfolding bytes any each
full_bytes zero x s = ap (λ y. eqb y 0) (and_zero_r (x + 0))
full_bytes (suc k) x s =
    let y = x / 256 in
    let b = x % 256 in
    let left : x + each 127 (suc k) ≡ (y + each 127 k) * 2 ^ 8 + (b + 127) = omega arith in
    let right : each 128 (suc k) ≡ each 128 k * 2 ^ 8 + 128 = omega arith in
    let both = ap₂ bit_and left right ∙ and_block 8 (y + each 127 k) (each 128 k) (b + 127) 128 (omega (arith, s.0)) (omega arith) in
    ap₂ eqb both right ∙ go (ℕ_discrete b 0) (full_bytes k y s.1)
  where
    go : Dec (x % 256 ≡ 0) → eqb (bit_and (x / 256 + each 127 k) (each 128 k)) (each 128 k) ≡ not (some_zero (bytes k (x / 256)))
        → eqb (bit_and (x / 256 + each 127 k) (each 128 k) * 256 + bit_and (x % 256 + 127) 128) (each 128 k * 256 + 128)
        ≡ not (eqb (x % 256) 0 || some_zero (bytes k (x / 256)))
    go (yes z) ih = rw z (ne_eqb _ _ (λ (e : bit_and (x / 256 + each 127 k) (each 128 k) * 256 + 0 ≡ each 128 k * 256 + 128). omega arith))
    go (no d) ih =
        let b = x % 256 in
        let some : b + 127 ≡ 1 * 2 ^ 7 + (b - 1) = omega (arith, d) in
        let top : bit_and (b + 127) 128 ≡ 128 =
        ap (λ y. bit_and y 128) some ∙ and_block 7 1 1 (b - 1) 0 (omega (arith, s.0)) (omega arith) ∙ ap (128 +◌) (and_zero_r (b - 1)) in
        rw (top, ne_eqb (x % 256) 0 d) (same_above (bit_and (x / 256 + each 127 k) (each 128 k)) (each 128 k) 128 ∙ ih)
