-- The slots of a word that no item holds, bit by bit, and the lowest of them. Assumes nothing.
use mathlib.Core.Path.{◌≡◌, refl, ap}
use mathlib.Core.Logic.{◌≢◌, ◌⊎◌, inl, inr}
use mathlib.Core.List.{List}
use Prim.Native.Nat.{ℕ, ◌^◌, ◌<◌, min}
use native.Mathlib.Omega.{arith}
use lib.Bits.{bit_and, and_le_l}
use Rattle.words.specs.Word.{bit, lowest}
use Rattle.words.proofs.Bits.{bit-lt, bit_empty, bit-and}
use Rattle.words.proofs.SetLaws.{Common, common}
use Rattle.augment.specs.Table.{own, Table, Unheld}
use Rattle.augment.specs.Search.{UnheldIn}
use Rattle.augment.proofs.Moves.{same_or, holder_matched}

-- a slot of a word is free, or none is
pub hole-or : (word f : ℕ) → word < 2 ^ 64 → ((h : ℕ) × Common word f h) ⊎ ((k : ℕ) → k < 64 → bit word k ≡ 1 → bit f k ≡ 0)
hole-or word f l =
    same_or (bit_and word f) 0
    (λ z. inr (λ k h b. omega (arith, bit-and word f k, ap (λ x. bit x k) z, bit_empty k, bit-lt f k)))
    (λ z. inl (lowest (bit_and word f), common (λ k h. bit-and word f k) (omega (arith, and_le_l word f)) z refl))

-- nobody holds a free slot
pub free-unheld : {o p : List ℕ} {f k : ℕ} → bit f k ≡ 1 → Unheld o p f k
free-unheld {f = f} b x M e = omega (arith, M.held, ap (bit f) e)

-- of a part of the word, the same part
pub unheld_part : {o p : List ℕ} {f word r : ℕ} (part : ℕ) → UnheldIn o p f word r → UnheldIn o p f (bit_and word part) (bit_and r part)
unheld_part {word = word} {r = r} part G =
    let in-r : (k : ℕ) → bit (bit_and r part) k ≡ 1 → bit r k ≡ 1 = λ k b. omega (arith, bit-and r part k, bit-lt r k) in
    let in_word : (k : ℕ) → bit (bit_and word part) k ≡ 1 → bit word k ≡ 1 = λ k b. omega (arith, bit-and word part k, bit-lt word k) in
    record {
      in_word = λ k h b. omega (arith, bit-and word part k, bit-and r part k, G.in_word k h (in-r k b));
      unheld = λ k h b. G.unheld k h (in-r k b);
      every = λ k h b U. omega (arith, bit-and word part k, bit-and r part k, G.every k h (in_word k b) U);
    }

module _ {w o p : List ℕ} {f : ℕ} (T : Table w o p f) where
  -- a slot that nobody holds is free
  pub unheld-free : (k : ℕ) → k < 64 → Unheld o p f k → bit f k ≡ 1
  unheld-free k h U = same_or (bit f k) 0 (λ b. absurd (U (own o k) (holder_matched T k h b) (T.back k h b))) (λ d. omega (arith, bit-lt f k))

  pub unheld-and : (word : ℕ) → UnheldIn o p f word (bit_and word f)
  unheld-and word = record {
    in_word = λ k h b. omega (arith, bit-and word f k, bit-lt word k);
    unheld = λ k h b. free-unheld (omega (arith, bit-and word f k, bit-lt f k));
    every = λ k h b U. omega (arith, bit-and word f k, unheld-free k h U);
  }

  module _ {word r : ℕ} (G : UnheldIn o p f word r) where
    pub unheld-bit : (k : ℕ) → k < 64 → bit r k ≡ min (bit word k) (bit f k)
    unheld-bit k h = same_or (bit r k) 1
        (λ b. omega (arith, G.in_word k h b, unheld-free k h (G.unheld k h b)))
        (λ d. same_or (min (bit word k) (bit f k)) 1
        (λ e. absurd (d (G.every k h (omega (arith, bit-lt word k)) (free-unheld (omega (arith, bit-lt f k))))))
        (λ n. omega (arith, bit-lt r k, bit-lt word k)))

    pub unheld-none : r ≡ 0 → (k : ℕ) → k < 64 → bit word k ≡ 1 → bit f k ≡ 0
    unheld-none z k h b = omega (arith, unheld-bit k h, ap (λ x. bit x k) z, bit_empty k, bit-lt f k)

    pub hole : {h : ℕ} → r < 2 ^ 64 → r ≢ 0 → h ≡ lowest r → Common word f h
    hole = common unheld-bit
