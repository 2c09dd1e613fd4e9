-- Or with one bit. Assumes nothing.
use Rattle.words.proofs.Bits.{shl_one}
use Rattle.words.proofs.SetLaws.{or_single}
use Rattle.words.proofs.with.Goals as goal

pub returns : goal.returns
returns c = rw (shl_one 64 c.args.j c.requires) (or_single 64 c.args.w c.args.j c.ranges.w.fits c.requires)
