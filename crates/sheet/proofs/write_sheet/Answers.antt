-- `write_sheet` meets its contract: the heading is written first, then a line for each item. Assumes nothing.
use Rattle.std.proofs.Common.{arith}
use Rattle.model.specs.Sheet.{heading}
use Rattle.sheet.proofs.SheetLines.{lines_none, lines_more}
use Rattle.sheet.proofs.write_sheet.Goals as goal

pub loop-i-init : goal.loop-i-init
unfolding heading
loop-i-init c = lines_none c.args.page.now c.requires.0 c.requires.1 c.requires.2 c.write_line.ensures

pub loop-i-preserved : goal.loop-i-preserved
loop-i-preserved c =
    lines_more c.loop-i.invariant (omega arith) c.from-slot.ensures c.mark.ensures
    (rw (c.columns.ensures, c.columns-in-loop-i.ensures) at c.write_line-in-loop-i.ensures)
