-- The product of twenty bytes, four at a time, the last multiplication modulo 2 to the power 64. Assumes nothing.
use Rattle.std.proofs.Common.{◌≡◌, ℕ, ◌+◌, ◌*◌, ◌/◌, ◌%◌, ◌^◌, ◌<◌, ◌≤◌, [], ◌∷◌, sym, ap, ◌∙◌, ap₂, mul-le-mul, div-add-mod', arith}
use lib.Bits.{bit_and, and_block, and_mask}
use Rattle.ryser.specs.Bytes.{bytes, multiplied, quad, Small, SmallQuad}

-- ---- two products by one multiplication

-- byte 0 of a word, and the byte that stands k bits higher
two_bytes : (k x : ℕ) → x % 2 ^ k < 2 ^ k → 255 < 2 ^ k → bit_and x (255 * 2 ^ k + 255) ≡ x / 2 ^ k % 256 * 2 ^ k + x % 2 ^ k % 256
two_bytes k x h l =
    ap (λ w. bit_and w (255 * 2 ^ k + 255)) (sym (div-add-mod' x (2 ^ k))) ∙ and_block k (x / 2 ^ k) 255 (x % 2 ^ k) 255 h l
    ∙ ap₂ (λ a b. a * 2 ^ k + b) (and_mask (x / 2 ^ k) 8) (and_mask (x % 2 ^ k) 8)

lanes : (a b c d : ℕ) → (b * 65536 + a) * (d * 4294967296 + c) ≡ a * c + b * c * 65536 + a * d * 4294967296 + b * d * 281474976710656
lanes a b c d = omega arith

-- the lowest and the highest 16 bits of p are the two products of `quad`
pub record Laned (x y p : ℕ) : Type 0 where
  pub fits : p < 2 ^ 64
  pub both : p % 65536 * (p / 281474976710656) ≡ quad x y
  pub few : quad x y ≤ 160000

pub laned : (x y : ℕ) → SmallQuad x y → Laned x y (bit_and x 16711935 * bit_and y 1095216660735)
laned x y s =
    let a = x % 256 in
    let b = x / 256 / 256 % 256 in
    let c = y % 256 in
    let d = y / 256 / 256 / 256 / 256 % 256 in
    let ac : a * c ≤ 400 = mul-le-mul s.0 s.1 in
    let bc : b * c ≤ 400 = mul-le-mul s.2 s.1 in
    let ad : a * d ≤ 400 = mul-le-mul s.0 s.3 in
    let bd : b * d ≤ 400 = mul-le-mul s.2 s.3 in
    let of-x : bit_and x 16711935 ≡ b * 65536 + a = omega (arith, two_bytes 16 x (omega arith) (omega arith)) in
    let of-y : bit_and y 1095216660735 ≡ d * 4294967296 + c = omega (arith, two_bytes 32 y (omega arith) (omega arith)) in
    let all = ap₂ ◌*◌ of-x of-y ∙ lanes a b c d in
    let p = bit_and x 16711935 * bit_and y 1095216660735 in
    let lowest : p % 65536 ≡ a * c = omega (arith, all) in
    let highest : p / 281474976710656 ≡ b * d = omega (arith, all) in
    record { fits = omega (arith, all); both = ap₂ ◌*◌ lowest highest; few = mul-le-mul ac bd }

-- ---- twenty bytes

-- thirteen of the factors of `term` fit a word
pub thirteen : {a b c p q r s : ℕ} → a ≤ 160000 → b ≤ 160000 → c ≤ 160000 → Small (p ∷ q ∷ r ∷ s ∷ []) → a * b * (c * p) ≤ 81920000000000000
thirteen ha hb hc h = mul-le-mul (mul-le-mul ha hb) (mul-le-mul hc h.0)

-- the factors in the order of the words' bytes
by_words : (a b c d i j k l q r : ℕ) → a * i * (b * j) * (c * k * q) * (d * l * r) ≡ a * b * (c * d) * (i * j * (k * l)) * (q * r)
by_words a b c d i j k l q r = omega arith

module _ (a b c d : ℕ) where
  swap : a * b * (c * d) ≡ a * c * (b * d)
  swap = omega arith

  in_a_row : a * (b * c * d) ≡ a * (b * (c * (d * 1)))
  in_a_row = omega arith

module _ (a b c d e f g h : ℕ) where
  -- bytes 0 and 2, 1 and 3, 4 and 6, 5 and 7
  by_two : a * c * (b * d) * (e * g * (f * h)) ≡ a * (b * (c * (d * (e * (f * (g * (h * 1)))))))
  by_two = omega arith

  -- bytes 0 and 4, 1 and 5, 2 and 6, 3 and 7
  by_four : a * e * (b * f) * (c * g * (d * h)) ≡ a * (b * (c * (d * (e * (f * (g * (h * 1)))))))
  by_four = omega arith

pub all-bytes : (x y z : ℕ) {a b c d : ℕ} → a ≡ quad x y → b ≡ quad (x / 256) (y / 256)
    → c ≡ quad (x / 256 / 256 / 256 / 256) (y / 256 / 256) → d ≡ quad (x / 256 / 256 / 256 / 256 / 256) (y / 256 / 256 / 256)
    → a * b * (c * (z % 256)) * (d * (z / 256 % 256 * (z / 256 / 256 % 256) * (z / 256 / 256 / 256 % 256)))
    ≡ multiplied (bytes 8 x) * multiplied (bytes 8 y) * multiplied (bytes 4 z)
unfolding bytes multiplied
all-bytes x y z ea eb ec ed =
    let last = z / 256 % 256 * (z / 256 / 256 % 256) * (z / 256 / 256 / 256 % 256) in
    ap₂ ◌*◌
    (ap₂ ◌*◌ (ap₂ ◌*◌ (ea ∙ swap _ _ _ _) (eb ∙ swap _ _ _ _)) (ap (◌* (z % 256)) (ec ∙ swap _ _ _ _))) (ap (◌* last) (ed ∙ swap _ _ _ _))
    ∙ by_words _ _ _ _ _ _ _ _ _ _ ∙ ap₂ ◌*◌ (ap₂ ◌*◌ (by_two _ _ _ _ _ _ _ _) (by_four _ _ _ _ _ _ _ _)) (in_a_row _ _ _ _)
