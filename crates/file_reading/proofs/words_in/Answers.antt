-- One more word is read, and at the end all are.
use Rattle.std.proofs.Common.{arith}
use Rattle.file_reading.proofs.Values.{values_more, values_done}
use Rattle.file_reading.proofs.words_in.Goals as goal

pub loop-i-preserved : goal.loop-i-preserved
loop-i-preserved c =
    let pre = c.requires in
    values_more c.args.file.now _ _ pre.2 c.loop-i.invariant pre.0 pre.1 (omega arith) c.from_bytes.ensures

pub returns : goal.returns
returns c = values_done c.args.file.now _ _ c.requires.2 {i = c.loop-i.i} c.loop-i.invariant (omega arith)
