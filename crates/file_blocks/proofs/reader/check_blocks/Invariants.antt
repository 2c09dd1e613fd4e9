-- The reader is at the next block; what was found before it, and what is left, are all. Assumes nothing.
use Rattle.std.proofs.Common.{◌≡◌}
use Rattle.file_blocks.specs.Blocks.{combined, all_checked}
use Rattle.file_blocks.proofs.Checking.{checked_from}
use Rattle.file_blocks.proofs.reader.check_blocks.Given as goal

abbrev pub invariant-loop : goal.invariant-loop
invariant-loop l = record {
  file : l.reader.file.now ≡ l.file;
  next : l.reader.next ≡ l.counter;
  left : combined l.found (checked_from l.edition l.file l.reader.next) ≡ all_checked l.edition l.file;
}
