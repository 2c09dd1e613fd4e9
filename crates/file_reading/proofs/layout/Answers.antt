-- The tests of `layout` are the definition's, in their order.
use Rattle.std.proofs.Common.{◌≡◌, ◌≢◌, ◌≤◌, ◌*◌, ◌/◌, ◌∙◌, refl, sym, ℕ, List, false, length, get_or, arith}
use borrow.Author.Tests.{not-true, not-false}
use Rattle.model.specs.declared.Edition.{Edition}
use Rattle.model.specs.Refusal.{code_of, number}
use Rattle.model.specs.File.{items_in}
use Rattle.file_blocks.specs.Blocks.{all_checked}
use Rattle.file_blocks.specs.declared.reader.Checked.{Checked}
use Rattle.file_reading.proofs.FileRefusals.{Tested, Counted, says_12, says_13, no_items, many-items, other_blocks, not_laid, all_laid}
use Rattle.file_reading.proofs.layout.Goals as goal
use Rattle.file_reading.proofs.layout.Goals.{then-n-eq0-via-then-n-eq0, then-n-eq0-via-else-n-eq0+then-n-gt64}
use Rattle.file_reading.proofs.layout.Goals.{then-n-eq0-via-else-n-eq0+else-n-gt64+then-k-blocks_for}
use Rattle.file_reading.proofs.layout.Goals.{then-n-eq0-via-else-n-eq0+else-n-gt64+else-k-blocks_for+then-not-found}

module _ {e : Edition} {file : List ℕ} {c : Checked} (whole : 512 * (length file / 512) ≡ length file) (some : length file / 512 ≢ 0)
    (few : length file / 512 ≤ 3) (found : c ≡ all_checked e file) where
  tested : Tested e file c
  tested = record { whole = whole; some = some; few = few; found = found }

  counted : c.wrong ≡ false → {n : ℕ} → n ≡ get_or file 5 0 → n ≢ 0 → n ≤ 64 → Counted e file c n
  unfolding items_in
  counted right items first last = record { tested = tested; right = right; items = items; first = first; last = last }

pub returns-then-k-file-clause-code : goal.returns-then-k-file-clause-code
unfolding code_of number
returns-then-k-file-clause-code c = (says_12 _ c.args.file.now (λ e. omega arith) (λ e. omega arith) (λ e. omega arith)).0

pub returns-then-found-clause-code : goal.returns-then-found-clause-code
unfolding code_of number
returns-then-found-clause-code c =
    (says_13 (tested c.if-k-file.false c.if-k-eq0.false c.if-k-gt3.false c.check_blocks-found.ensures) c.if-found.true).0

pub returns-then-n-eq0-clause-code : goal.returns-then-n-eq0-clause-code
unfolding code_of number items_in
returns-then-n-eq0-clause-code c =
    let t = tested c.if-k-file.false c.if-k-eq0.false c.if-k-gt3.false c.check_blocks-found.ensures in
    let counts = counted c.if-k-file.false c.if-k-eq0.false c.if-k-gt3.false c.check_blocks-found.ensures c.if-found.false c.from-n.ensures in
    elim c.then-n-eq0.branch [
      | then-n-eq0-via-then-n-eq0 w ↦ (no_items t c.if-found.false c.from-n.ensures w.if-n-eq0.true).0
      | then-n-eq0-via-else-n-eq0+then-n-gt64 w ↦ (many-items t c.if-found.false c.from-n.ensures w.if-n-gt64.true).0
      | then-n-eq0-via-else-n-eq0+else-n-gt64+then-k-blocks_for w ↦
          (other_blocks (counts w.if-n-eq0.false w.if-n-gt64.false) (λ e. w.if-k-blocks_for.true (e ∙ sym w.blocks_for.ensures.0))).0
      | then-n-eq0-via-else-n-eq0+else-n-gt64+else-k-blocks_for+then-not-found w ↦
          (not_laid (counts w.if-n-eq0.false w.if-n-gt64.false) (w.if-k-blocks_for.false ∙ w.blocks_for.ensures.0) (not-true _ w.if-not-found.true)).0
    ]

pub returns-clause-code : goal.returns-clause-code
unfolding code_of
returns-clause-code c =
    let t =
    counted c.if-k-file.false c.if-k-eq0.false c.if-k-gt3.false c.check_blocks-found.ensures c.if-found.false c.from-n.ensures c.if-n-eq0.false
    c.if-n-gt64.false in
    (all_laid t (c.if-k-blocks_for.false ∙ c.blocks_for.ensures.0) (not-false _ c.if-not-found.false)).0

pub returns-clause-laid : goal.returns-clause-laid
returns-clause-laid c =
    let t =
    counted c.if-k-file.false c.if-k-eq0.false c.if-k-gt3.false c.check_blocks-found.ensures c.if-found.false c.from-n.ensures c.if-n-eq0.false
    c.if-n-gt64.false in
    (t.items, (all_laid t (c.if-k-blocks_for.false ∙ c.blocks_for.ensures.0) (not-false _ c.if-not-found.false)).1 refl)
