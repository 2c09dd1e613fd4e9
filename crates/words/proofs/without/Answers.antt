-- And with all bits but one. Assumes nothing.
use Rattle.words.proofs.Bits.{shl_one}
use Rattle.words.proofs.SetLaws.{and-not_single}
use Rattle.words.proofs.without.Goals as goal

pub returns : goal.returns
returns c = rw (shl_one 64 c.args.j c.requires) (and-not_single 64 c.args.w c.args.j c.ranges.w.fits c.requires)
