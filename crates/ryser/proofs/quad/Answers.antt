-- `ryser::quad` meets its contract: four products side by side, and the two at the ends multiplied. Assumes nothing.
use Rattle.std.proofs.Common.{arith}
use Rattle.ryser.proofs.Products.{laned}
use Rattle.ryser.proofs.quad.Goals as goal

pub overflow_mul-p : goal.overflow_mul-p
overflow_mul-p c = omega (arith, (laned _ _ c.requires).fits)

pub overflow_mul-result : goal.overflow_mul-result
overflow_mul-result c = let l = laned _ _ c.requires in omega (arith, l.both, l.few)

pub returns : goal.returns
returns c = let l = laned _ _ c.requires in (l.both, omega (arith, l.both, l.few))
