-- The mark differs, or the other fields decide.
use Rattle.std.proofs.Common.{◌∙◌, sym}
use Rattle.model.specs.File.{mark}
use Rattle.file_blocks.proofs.Layouts.{head_mark, head_rest}
use Rattle.file_blocks.proofs.checks.header_laid.Goals as goal

pub returns-then-starts_with : goal.returns-then-starts_with
unfolding mark
returns-then-starts_with c =
    c.ends_with.ensures.value
    ∙ head_rest _ c.args.head.now _ _ _ _ c.requires _ c.fields.ensures (sym c.starts_with.ensures.value ∙ c.if-starts_with.true)

pub returns-else-starts_with : goal.returns-else-starts_with
unfolding mark
returns-else-starts_with c =
    c.if-starts_with.false ∙ head_mark _ c.args.head.now _ _ _ _ c.requires (sym c.starts_with.ensures.value ∙ c.if-starts_with.false)
