-- A 64-bit word has no slot above 63. Assumes nothing.
use Rattle.std.proofs.Common.{sym, ◌∙◌}
use Rattle.std.proofs.lemmas.Bool.{le-ltb}
use Rattle.words.proofs.Bits.{bit_high, has_false}
use Rattle.plan.proofs.is_callout.Goals as goal

pub returns-else-j-lt64 : goal.returns-else-j-lt64
returns-else-j-lt64 c = le-ltb _ _ c.if-j-lt64.false ∙ sym (has_false _ _ (bit_high 64 _ _ c.ranges.word.fits c.if-j-lt64.false))
