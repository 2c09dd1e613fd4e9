-- The blocks before number b are written.
use Rattle.std.proofs.Common.{length}
use Rattle.file_writing.proofs.WrittenBytes.{BlocksWritten}
use Rattle.file_writing.proofs.write_blocks.Given as goal

abbrev pub invariant-loop-b : goal.invariant-loop-b
invariant-loop-b l = BlocksWritten l.edition (length l.opens) l.m l.opens l.callouts l.b-end l.file l.b
