-- Refusals 12, 13 and 14, test by test as the code makes them. Assumes nothing.
use mathlib.Core.Path.{◌≡◌, sym, ap, ◌∙◌}
use mathlib.Core.Logic.{◌≢◌}
use mathlib.Core.Bool.{Bool, true, false, ◌||◌}
use mathlib.Core.List.{List}
use Prim.Native.Nat.{ℕ, ◌*◌, ◌/◌, ◌≤◌, ◌<◌}
use native.Mathlib.Omega.{arith}
use borrow.Author.Tests.{eq-eqb, ne_eqb, le-leb, lt-leb}
use lib.Dec.{eqb, leb}
use lib.ListN.{length}
use Rattle.model.specs.declared.Edition.{Edition}
use Rattle.model.specs.Lists.{any}
use Rattle.model.specs.Rota.{cell_code}
use Rattle.model.specs.File.{blocks_for, blocks_in, items_in, slots_in, opens_in, callouts_in, check_wrong, laid_out, file_code}
use Rattle.model.specs.Refusal.{or_else}
use Rattle.model.proofs.Files.{file_code_is, size_into, blocks-count}
use Rattle.file_blocks.specs.Blocks.{all_checked}
use Rattle.file_blocks.specs.declared.reader.Checked.{Checked}

-- what the tests before 13 leave, and what the tests of all blocks found
pub record Tested (e : Edition) (file : List ℕ) (c : Checked) : Type 0 where
  pub whole : 512 * (length file / 512) ≡ length file
  pub some : length file / 512 ≢ 0
  pub few : length file / 512 ≤ 3
  pub found : c ≡ all_checked e file

-- the checks are right, and n is 1 to 64
pub record Counted (e : Edition) (file : List ℕ) (c : Checked) (n : ℕ) : Type 0 where
  pub tested : Tested e file c
  pub right : c.wrong ≡ false
  pub items : n ≡ items_in file
  pub first : n ≢ 0
  pub last : n ≤ 64

module _ (e : Edition) (file : List ℕ) where
  abbrev laid : Bool
  laid = laid_out e (items_in file) (slots_in e file) (blocks_in file)

  -- what the answer r says of the file
  abbrev Says : ℕ → Type 0
  Says r = (or_else r (cell_code (slots_in e file) (opens_in file) (callouts_in file)) ≡ file_code e file) × (r ≡ 0 → laid ≡ true)

  pub says_12 : length file ≢ 512 → length file ≢ 1024 → length file ≢ 1536 → Says 12
  unfolding or_else
  says_12 a b c =
      (sym (file_code_is e file ∙ simp (ne_eqb (length file) 512 a, ne_eqb (length file) 1024 b, ne_eqb (length file) 1536 c)), λ z. absurd (omega arith))

module _ {e : Edition} {file : List ℕ} {c : Checked} (t : Tested e file c) where
  is_sized : (eqb (length file) 512 || eqb (length file) 1024 || eqb (length file) 1536) ≡ true
  is_sized =
      let k = length file / 512 in
      let s : (eqb (512 * k) 512 || eqb (512 * k) 1024 || eqb (512 * k) 1536) ≡ true = size_into k (omega arith) t.few in
      rw t.whole at s

  wrong_found : any (check_wrong e) (blocks_in file) ≡ c.wrong
  unfolding all_checked
  wrong_found = sym (ap (λ x. x.wrong) t.found)

  pub says_13 : c.wrong ≡ true → Says e file 13
  unfolding or_else
  says_13 q = (sym (file_code_is e file ∙ simp (is_sized, wrong_found ∙ q)), λ z. absurd (omega arith))

  module _ (right : c.wrong ≡ false) where
    says_14 : laid e file ≡ false → Says e file 14
    unfolding or_else
    says_14 q = (sym (file_code_is e file ∙ simp (is_sized, wrong_found ∙ right, q)), λ z. absurd (omega arith))

    says_0 : laid e file ≡ true → Says e file 0
    unfolding or_else
    says_0 q = (sym (file_code_is e file ∙ simp (is_sized, wrong_found ∙ right, q)), λ z. q)

    module _ {n : ℕ} (items : n ≡ items_in file) where
      pub no_items : n ≡ 0 → Says e file 14
      unfolding laid_out
      no_items z = says_14 (simp (lt-leb 1 (items_in file) (omega arith)))

      pub many-items : 64 < n → Says e file 14
      unfolding laid_out
      many-items h = says_14 (simp (le-leb 1 (items_in file) (omega arith), lt-leb (items_in file) 64 (omega arith)))

module _ {e : Edition} {file : List ℕ} {c : Checked} {n : ℕ} (t : Counted e file c n) where
  some_item : leb 1 (items_in file) ≡ true
  some_item = le-leb 1 (items_in file) (omega arith)

  few-items : leb (items_in file) 64 ≡ true
  few-items = le-leb (items_in file) 64 (omega arith)

  pub other_blocks : length file / 512 ≢ blocks_for n → Says e file 14
  unfolding laid_out
  other_blocks d =
      let differ = ne_eqb (length (blocks_in file)) (blocks_for (items_in file)) (λ q. d (sym (blocks-count file) ∙ q ∙ sym (ap blocks_for t.items))) in
      says_14 t.tested t.right (simp (some_item, few-items, differ))

  module _ (blocks : length file / 512 ≡ blocks_for n) where
    laid_found : laid e file ≡ c.laid
    unfolding laid_out all_checked
    laid_found =
        simp (some_item, few-items, eq-eqb (length (blocks_in file)) (blocks_for (items_in file)) (blocks-count file ∙ blocks ∙ ap blocks_for t.items))
        (sym (ap (λ x. x.laid) t.tested.found))

    pub not_laid : c.laid ≡ false → Says e file 14
    not_laid q = says_14 t.tested t.right (laid_found ∙ q)

    pub all_laid : c.laid ≡ true → Says e file 0
    all_laid q = says_0 t.tested t.right (laid_found ∙ q)
