-- The heading and the lines of the first i items are written. Assumes nothing.
use Rattle.std.proofs.Common.{length}
use Rattle.sheet.proofs.SheetLines.{LinesWritten}
use Rattle.sheet.proofs.write_sheet.Given as goal

abbrev pub invariant-loop-i : goal.invariant-loop-i
invariant-loop-i l = LinesWritten (length l.callouts) l.callouts l.slots l.page l.i
