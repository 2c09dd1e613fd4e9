-- `reader::check_at` meets its contract. Assumes nothing.
use Rattle.std.proofs.Common.{ap}
use Rattle.file_blocks.specs.Blocks.{combined}
use Rattle.file_blocks.proofs.OneBlock.{checked_block}
use Rattle.file_blocks.proofs.reader.check_at.Goals as goal

pub returns : goal.returns
returns c =
    ap (combined c.args.before) (checked_block c.args.file.now c.args.b _ _ c.slots_in-m.ensures _ _
    c.check_wrong-wrong.ensures c.block_laid-laid.ensures)
