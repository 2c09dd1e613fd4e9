-- `Sums::column` meets its contract: the sums for one slot, less those for none. Assumes nothing.
use Rattle.std.proofs.Math.Pow.{pow-lt}
use Rattle.ryser.proofs.RowSums.{column_alone}
use Rattle.ryser.proofs.Sums.column.Goals as goal

pub of-requires : goal.of-requires
of-requires c = rw c.single.ensures (pow-lt c.requires)

pub minus-requires : goal.minus-requires
minus-requires c = rw (c.of.ensures, c.of-2.ensures, c.single.ensures) (column_alone c.args.opens.now c.args.j).0

pub returns : goal.returns
returns c = rw (c.minus.ensures, c.of.ensures, c.of-2.ensures, c.single.ensures) (column_alone c.args.opens.now c.args.j).1
