-- `columns` meets its contract: the two bytes of the table. Assumes nothing.
use Rattle.sheet.proofs.SheetLines.{numbers, number_at}
use Rattle.sheet.proofs.columns.Goals as goal

pub returns : goal.returns
unfolding numbers
returns c = number_at c.args.x c.requires
