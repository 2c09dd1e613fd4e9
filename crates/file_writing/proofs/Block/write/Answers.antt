-- The check is written after the bytes that it is of.
use Rattle.std.proofs.Common.{arith, ◌∙◌}
use Rattle.model.proofs.Editions.{check_small}
use Rattle.file_writing.proofs.WrittenBytes.{block_written}
use Rattle.file_writing.proofs.Block.write.Goals as goal

pub overflow_cast-check : goal.overflow_cast-check
overflow_cast-check c = grind (arith, c.check_of-check.ensures, check_small)

pub returns : goal.returns
returns c =
    let s = c.args.self.now in
    block_written _ _ _ _ s.opens.now s.callouts.now c.args.block.now _ _ _ s.sized.0 s.sized.1 c.requires c.write_body.ensures
    c.check_of-check.ensures (c.copy_from_slice.ensures.after ∙ c.to_le_bytes.ensures)
