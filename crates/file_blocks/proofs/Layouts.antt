-- The layout of a block, part by part as the code tests it. Assumes nothing.
use mathlib.Core.Path.{◌≡◌, refl, sym, ap, ap₂, ◌∙◌}
use mathlib.Core.Bool.{Bool, true, false, not, ◌&&◌}
use mathlib.Core.List.{List, ◌++◌}
use Prim.Native.Nat.{ℕ, ◌+◌, ◌-◌, ◌*◌, ◌≤◌, ◌<◌}
use native.Mathlib.Omega.{arith}
use lib.Dec.{eqb}
use lib.ListN.{length, get_or, take, drop, replicate, length-take, length-drop, length-append, take-append-drop}
use lib.Seq.{take_all, get_or-take}
use Rattle.std.specs.Cmp.Lexicographic.{pointwise}
use Rattle.model.specs.declared.Edition.{Edition}
use Rattle.model.specs.Lists.{same}
use Rattle.model.specs.File.{from_bytes, mark, header, items_of, unused, check_of, check_wrong, block_laid}
use Rattle.model.proofs.Members.{same-append, same-eq}
use Rattle.model.proofs.Parts.{drop-take}
use Rattle.model.proofs.Editions.{header-length, header-number, header_marked}
use Rattle.file_blocks.proofs.Comparing.{same_is}

module _ (e : Edition) (block : List ℕ) (long : length block ≡ 512) where
  pub wrong_is : not (eqb (from_bytes (take 2 (drop 510 block))) (check_of e (take 510 block))) ≡ check_wrong e block
  unfolding check_wrong
  wrong_is = ap (λ l. not (eqb (from_bytes l) (check_of e (take 510 block)))) (take_all 2 (drop 510 block) (omega (arith, length-drop 510 block)))

  module _ (n m b : ℕ) where
    -- a byte is no number above 255
    pub laid_number : get_or block 6 0 < 256 → 255 < b → false ≡ block_laid e n m b block
    unfolding block_laid
    laid_number small h = go (same (take 14 block) (header e n m b (items_of n b))) refl
      where
        go : (t : Bool) → same (take 14 block) (header e n m b (items_of n b)) ≡ t
            → false ≡ (t && same (drop (14 + 16 * items_of n b) (take 510 block)) (unused (items_of n b)))
        go true q =
            let head = same-eq (take 14 block) (header e n m b (items_of n b)) q in
            absurd (omega (arith, ap (λ l. get_or l 6 0) head, header-number e n m b (items_of n b), get_or-take 14 block 6 0 (omega arith)))
        go false q = refl

    module _ (k : ℕ) (items : k ≡ items_of n b) (few : k ≤ 31) where
      -- the bytes after the items
      abbrev tail : List ℕ
      tail = take (510 - (14 + 16 * k)) (drop (14 + 16 * k) block)

      laid_parts : block_laid e n m b block ≡ (same (take 14 block) (header e n m b k) && same tail (replicate (16 * (31 - k)) 0))
      unfolding block_laid unused
      laid_parts =
          sym (ap (λ j. same (take 14 block) (header e n m b j) && same (drop (14 + 16 * j) (take 510 block)) (replicate (16 * (31 - j)) 0)) items)
          ∙ ap (λ l. same (take 14 block) (header e n m b k) && same l (replicate (16 * (31 - k)) 0)) (drop-take (14 + 16 * k) 510 block)

      pub laid_head : same (take 14 block) (header e n m b k) ≡ false → false ≡ block_laid e n m b block
      laid_head q = sym (laid_parts ∙ ap (◌&& same tail (replicate (16 * (31 - k)) 0)) q)

      pub laid_rest : same (take 14 block) (header e n m b k) ≡ true → same tail (replicate (length tail) 0) ≡ block_laid e n m b block
      laid_rest q =
          let at = 14 + 16 * k in
          let size : length tail ≡ 16 * (31 - k) = omega (arith, length-take (510 - at) (drop at block), length-drop at block) in
          sym (laid_parts ∙ ap₂ (λ t j. t && same tail (replicate j 0)) q (sym size))

-- the mark, then the other fields
module _ (e : Edition) (head : List ℕ) (n m b k : ℕ) (long : length head ≡ 14) where
  head_parts : (rest : List ℕ) → mark ++ rest ≡ header e n m b k → same head (header e n m b k) ≡ (same (take 4 head) mark && same (drop 4 head) rest)
  unfolding mark
  head_parts rest fields =
      ap₂ same (sym (take-append-drop 4 head)) (sym fields) ∙ same-append (take 4 head) (drop 4 head) mark rest (omega (arith, length-take 4 head))

  pub head_rest : (rest : List ℕ) → mark ++ rest ≡ header e n m b k → pointwise eqb mark (take 4 head) ≡ true
      → pointwise eqb rest (drop (length head - length rest) head) ≡ same head (header e n m b k)
  unfolding mark
  head_rest rest fields q =
      let four : length head - length rest ≡ 4 = omega (arith, ap length fields, length-append mark rest, header-length e n m b k) in
      rw four (sym (head_parts rest fields ∙ ap₂ ◌&&◌ (same_is (take 4 head) mark ∙ q) (same_is (drop 4 head) rest)))

  pub head_mark : pointwise eqb mark (take 4 head) ≡ false → false ≡ same head (header e n m b k)
  head_mark q =
      let f = header_marked e n m b k in
      sym (head_parts f.0 f.1 ∙ ap (◌&& same (drop 4 head) f.0) (same_is (take 4 head) mark ∙ q))
