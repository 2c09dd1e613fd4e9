-- One more block is written, from its own items, and at the end all are.
use Rattle.std.proofs.Common.{arith, refl}
use Rattle.file_writing.proofs.WrittenBytes.{blocks-none, last_item, blocks_more, blocks_done}
use Rattle.file_writing.proofs.write_blocks.Goals as goal

pub loop-b-init : goal.loop-b-init
loop-b-init c = blocks-none c.requires.0 refl c.requires.2 c.blocks_for-b-end.ensures.0 c.requires.3

pub slice_bounds-block-end : goal.slice_bounds-block-end
slice_bounds-block-end c = omega (arith, last_item c.loop-b.invariant c.loop-b-test.true c.items_of.ensures.0)

pub slice_bounds-block-end-in-loop-b : goal.slice_bounds-block-end-in-loop-b
slice_bounds-block-end-in-loop-b c = omega (arith, last_item c.loop-b.invariant c.loop-b-test.true c.items_of.ensures.0)

pub loop-b-preserved : goal.loop-b-preserved
loop-b-preserved c = blocks_more c.loop-b.invariant c.loop-b-test.true c.items_of.ensures.0 c.write.ensures

pub returns : goal.returns
returns c = blocks_done c.loop-b.invariant (omega arith)
