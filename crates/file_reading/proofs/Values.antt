-- The words of a file, one a turn. Assumes nothing.
use mathlib.Core.Path.{◌≡◌, sym, ap, ◌∙◌}
use mathlib.Core.List.{List, ◌++◌}
use Prim.Native.Nat.{ℕ, ◌+◌, ◌-◌, ◌*◌, ◌/◌, ◌%◌, ◌≤◌, ◌<◌}
use native.Mathlib.Omega.{arith}
use lib.ListN.{length, get_or, take, drop, set, replicate}
use lib.Seq.{take-length}
use Rattle.model.specs.File.{from_bytes, blocks_in, words_in}
use Rattle.model.proofs.Files.{all-length, word_of}
use Rattle.words.proofs.Front.{front, front_more}

module _ (file : List ℕ) (p n : ℕ) (room : n ≤ 31 * (length file / 512)) where
  pub values_length : length (words_in p n (blocks_in file)) ≡ n
  unfolding blocks_in
  values_length = all-length p n (length file / 512) file room

  module _ {words : List ℕ} {i : ℕ} (so_far : words ≡ front (words_in p n (blocks_in file)) (replicate 64 0) i) where
    pub values_more : p ≤ 24 → n ≤ 64 → i < n → {x : ℕ} → let at = 512 * (i / 31) + p + 16 * (i % 31) in x ≡ from_bytes (take (at + 8 - at) (drop at file))
        → set words i x ≡ front (words_in p n (blocks_in file)) (replicate 64 0) (i + 1)
    values_more fits few h {x} q =
        let at = 512 * (i / 31) + p + 16 * (i % 31) in
        let size : at + 8 - at ≡ 8 = omega arith in
        let v : x ≡ get_or (words_in p n (blocks_in file)) i 0 = rw size at q ∙ sym (word_of p n i file fits room h) in
        rw (so_far, v) (front_more (words_in p n (blocks_in file)) (replicate 64 0) i (omega (arith, values_length)) (omega arith))

    pub values_done : i ≡ n → words ≡ words_in p n (blocks_in file) ++ drop n (replicate 64 0)
    values_done d =
        let q : i ≡ length (words_in p n (blocks_in file)) = d ∙ sym values_length in
        so_far ∙ ap (λ j. take j (words_in p n (blocks_in file)) ++ drop i (replicate 64 0)) q
        ∙ ap (◌++ drop i (replicate 64 0)) (take-length (words_in p n (blocks_in file))) ∙ ap (λ j. words_in p n (blocks_in file) ++ drop j (replicate 64 0)) d
