-- One less turns over the lowest slot and those below it. Assumes nothing.
use Rattle.words.proofs.SetLaws.{and_pred}
use Rattle.words.proofs.without_lowest.Goals as goal

pub returns : goal.returns
returns c = and_pred c.args.w c.requires c.ranges.w.fits
