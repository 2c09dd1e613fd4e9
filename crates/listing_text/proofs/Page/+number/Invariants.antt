-- What falls is the number. Assumes nothing.
use Rattle.listing_text.proofs.Page.+number.Given as goal

abbrev pub decreases-number : goal.decreases-number
decreases-number l = l.x
