-- The mark and the other ten bytes are copied, each whole.
use Rattle.model.specs.File.{mark}
use Rattle.file_writing.proofs.WrittenBytes.{header-written}
use Rattle.file_writing.proofs.write_header.Goals as goal

pub returns : goal.returns
unfolding mark
returns c =
    header-written _ _ _ _ _ c.fields.result c.args.out.now _ _ c.requires c.fields.ensures c.copy_from_slice.ensures.after
    c.copy_from_slice-2.ensures.after
