-- Going from block to block: what is found before the next block, and what is left. Assumes nothing.
use mathlib.Core.Path.{◌≡◌, refl, sym, ap, ap₂, ◌∙◌}
use mathlib.Core.WellFounded.InvImage
use mathlib.Core.WellFounded.{WellFounded}
use mathlib.Core.Bool.{true, false, and_assoc, and-true, or_assoc, or-false}
use mathlib.Core.List.{List, []}
use Prim.Native.Nat.{ℕ, ◌+◌, ◌-◌, ◌/◌, ◌≤◌, ◌<◌}
use native.Mathlib.Numerals.{add-one}
use native.Mathlib.Omega.{arith}
use lib.ListN.{length, drop, drop_of_length-le}
use lib.WfN.{lt-wf_rel}
use Rattle.model.specs.declared.Edition.{Edition}
use Rattle.model.specs.Lists.{any}
use Rattle.model.specs.File.{blocks_in, items_in, slots_in, check_wrong, blocks_laid}
use Rattle.model.proofs.Files.{blocks-count}
use Rattle.file_blocks.specs.Blocks.{checked_at, all_checked, combined}
use Rattle.file_blocks.specs.declared.reader.Checked.{Checked}
use Rattle.file_blocks.proofs.OneBlock.{block_next}

-- of the blocks from number b on
abbrev pub checked_from : Edition → List ℕ → ℕ → Checked
checked_from e file b =
    let rest = drop b (blocks_in file) in
    record { wrong = any (check_wrong e) rest; laid = blocks_laid e (items_in file) (slots_in e file) b rest }

pub record Checking (e : Edition) (file : List ℕ) : Type 0 where
  pub next : ℕ
  pub found : Checked
  pub within : next ≤ length file / 512
  pub left : combined found (checked_from e file next) ≡ all_checked e file

module _ (e : Edition) (file : List ℕ) where
  pub left_all : combined (record { wrong = false; laid = true }) (checked_from e file 0) ≡ all_checked e file
  unfolding all_checked
  left_all = refl

  abbrev pub none-checked : Checking e file
  none-checked = record { next = 0; found = record { wrong = false; laid = true }; within = omega arith; left = left_all }

  -- block b, and those after it
  from_next : (b : ℕ) → b < length file / 512 → checked_from e file b ≡ combined (checked_at e file b) (checked_from e file (b + 1))
  unfolding checked_at any blocks_laid
  from_next b h = rw add-one (ap (λ l. record { wrong = any (check_wrong e) l; laid = blocks_laid e (items_in file) (slots_in e file) b l }) (block_next file b h))

  combined_assoc : (a b c : Checked) → combined (combined a b) c ≡ combined a (combined b c)
  combined_assoc a b c = ap₂ (λ x y. record { wrong = x; laid = y }) (or_assoc a.wrong b.wrong c.wrong) (and_assoc a.laid b.laid c.laid)

  pub left_more : (t : Checking e file) → t.next < length file / 512
      → combined (combined t.found (checked_at e file t.next)) (checked_from e file (t.next + 1)) ≡ all_checked e file
  left_more t h = combined_assoc t.found _ _ ∙ sym (ap (combined t.found) (from_next t.next h)) ∙ t.left

  abbrev pub one_more : (t : Checking e file) → t.next < length file / 512 → Checking e file
  one_more t h = record { next = t.next + 1; found = combined t.found (checked_at e file t.next); within = omega arith; left = left_more t h }

  -- at the file's end, and beyond it
  pub all-checked : (found : Checked) (b : ℕ) → combined found (checked_from e file b) ≡ all_checked e file
      → length file / 512 ≤ b → found ≡ all_checked e file
  unfolding any blocks_laid
  all-checked found b left h =
      let none : drop b (blocks_in file) ≡ [] = drop_of_length-le (blocks_in file) {i = b} (omega (arith, blocks-count file)) in
      ap₂ (λ x y. record { wrong = x; laid = y }) (sym (or-false found.wrong)) (sym (and-true found.laid)) ∙ (rw none at left)

  pub checking_end : (t : Checking e file) → length file / 512 ≤ t.next → t.found ≡ all_checked e file
  checking_end t = all-checked t.found t.next t.left

  -- the reader comes nearer to the file's end
  abbrev pub Nearer : Checking e file → Checking e file → Type 0
  Nearer u t = length file / 512 - u.next < length file / 512 - t.next

  pub nearer_wf : WellFounded Nearer
  nearer_wf = InvImage.wf (λ (t : Checking e file). length file / 512 - t.next) lt-wf_rel.wf

  pub comes_nearer : (t : Checking e file) (h : t.next < length file / 512) → Nearer (one_more t h) t
  comes_nearer t h = omega arith
