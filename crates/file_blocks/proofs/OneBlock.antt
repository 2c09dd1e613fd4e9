-- Block b: its bytes, and what its tests find. Assumes nothing.
use mathlib.Core.Path.{◌≡◌, sym, ap, ap₂, ◌∙◌}
use mathlib.Core.Bool.{Bool}
use mathlib.Core.List.{List, [], ◌∷◌}
use Prim.Native.Nat.{ℕ, suc, ◌+◌, ◌-◌, ◌*◌, ◌/◌, ◌<◌}
use native.Mathlib.Omega.{arith}
use lib.ListN.{length, get_or, take, drop}
use lib.Seq.{drop-cons}
use Rattle.model.specs.declared.Edition.{Edition}
use Rattle.model.specs.File.{cut, blocks_in, items_in, slots_in, check_wrong, block_laid}
use Rattle.model.proofs.Files.{blocks-count, cut-drop}
use Rattle.file_blocks.specs.Blocks.{checked_at}
use Rattle.file_blocks.specs.declared.reader.Checked.{Checked}

module _ (file : List ℕ) (b : ℕ) where
  pub block_next : b < length file / 512 → drop b (blocks_in file) ≡ take 512 (drop (512 * b) file) ∷ drop (suc b) (blocks_in file)
  unfolding blocks_in cut
  block_next h =
      let k = length file / 512 in
      let q : k - b ≡ suc (k - suc b) = omega arith in
      let d = drop-cons (blocks_in file) b [] (omega (arith, blocks-count file)) in
      let bytes = cut-drop b k file ∙ ap (λ j. cut j (drop (512 * b) file)) q in
      d ∙ ap (λ l. get_or l 0 [] ∷ drop (suc b) (blocks_in file)) (sym d ∙ bytes)

  pub checked_block : (e : Edition) (m : ℕ) → m ≡ slots_in e file → (w l : Bool) → let block = take (512 * b + 512 - 512 * b) (drop (512 * b) file) in
      w ≡ check_wrong e block → l ≡ block_laid e (get_or file 5 0) m b block → ◌≡◌ {A = Checked} (record { wrong = w; laid = l }) (checked_at e file b)
  unfolding checked_at items_in
  checked_block e m slots w l p q =
      let size : 512 * b + 512 - 512 * b ≡ 512 = omega arith in
      ap₂ (λ x y. record { wrong = x; laid = y }) (rw size at p) (rw (size, slots) at q)
