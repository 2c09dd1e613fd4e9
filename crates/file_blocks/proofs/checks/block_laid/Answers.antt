-- The number, the header, or the unused places decide.
use Rattle.std.proofs.Common.{ℕ, ◌≡◌, ◌∙◌, sym, ap, arith}
use Rattle.model.specs.File.{items_of}
use Rattle.file_blocks.proofs.Layouts.{laid_number, laid_head, laid_rest}
use Rattle.file_blocks.proofs.checks.block_laid.Goals as goal

pub returns-in_default : goal.returns-in_default
returns-in_default c = laid_number _ c.args.block.now c.requires _ _ _ (c.type_inv.block 6).fits (omega (arith, c.in_default.ensures))

-- the block's number of items
items : {n n' k : ℕ} (b : ℕ) → k ≡ items_of n' b → n' ≡ n → k ≡ items_of n b
items b e h = e ∙ ap (λ j. items_of j b) h

pub returns-then-header_laid : goal.returns-then-header_laid
returns-then-header_laid c =
    let head = rw c.in-Ok.ensures.1 at c.header_laid.ensures in
    c.all_zero.ensures
    ∙ laid_rest _ c.args.block.now c.requires _ _ _ _ (items c.args.b c.items_of-k.ensures.0 c.from.ensures) c.items_of-k.ensures.1
    (sym head ∙ c.if-header_laid.true)

pub returns-else-header_laid : goal.returns-else-header_laid
returns-else-header_laid c =
    let head = rw c.in-Ok.ensures.1 at c.header_laid.ensures in
    c.if-header_laid.false
    ∙ laid_head _ c.args.block.now c.requires _ _ _ _ (items c.args.b c.items_of-k.ensures.0 c.from.ensures) c.items_of-k.ensures.1
    (sym head ∙ c.if-header_laid.false)
