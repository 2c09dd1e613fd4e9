-- Each word's bytes are written over their part.
use Rattle.std.proofs.Common.{◌∙◌}
use Rattle.file_writing.proofs.WrittenBytes.{item-written}
use Rattle.file_writing.proofs.write_item.Goals as goal

pub returns : goal.returns
returns c =
    item-written _ _ c.args.out.now _ _ c.requires (c.copy_from_slice.ensures.after ∙ c.to_le_bytes.ensures)
    (c.copy_from_slice-2.ensures.after ∙ c.to_le_bytes-2.ensures)
