-- `Sums::term` meets its contract: twenty bytes, four at a time. Assumes nothing.
use Rattle.std.proofs.Common.{◌%◌, ◌^◌, ap, arith}
use Rattle.ryser.specs.Bytes.{bytes}
use Rattle.ryser.proofs.Bytes.{small_four}
use Rattle.ryser.proofs.Products.{thirteen, all-bytes}
use Rattle.ryser.proofs.Sums.term.Goals as goal

pub quad-a-requires : goal.quad-a-requires
unfolding bytes
quad-a-requires c = let p = c.requires in (p.0.0, p.1.0, p.0.1.1.0, p.1.1.1.1.1.0)

pub quad-b-requires : goal.quad-b-requires
unfolding bytes
quad-b-requires c = let p = c.requires in (p.0.1.0, p.1.1.0, p.0.1.1.1.0, p.1.1.1.1.1.1.0)

pub quad-c-requires : goal.quad-c-requires
unfolding bytes
quad-c-requires c = let p = c.requires in let q = p.0.1.1.1.1 in (q.0, p.1.1.1.0, q.1.1.0, p.1.1.1.1.1.1.1.0)

pub quad-d-requires : goal.quad-d-requires
unfolding bytes
quad-d-requires c = let p = c.requires in let q = p.0.1.1.1.1.1 in (q.0, p.1.1.1.1.0, q.1.1.0, p.1.1.1.1.1.1.1.1.0)

pub overflow_mul-result-3 : goal.overflow_mul-result-3
unfolding bytes
overflow_mul-result-3 c =
    omega (arith, thirteen c.quad-a.ensures.1 c.quad-b.ensures.1 c.quad-c.ensures.1 (small_four _ c.requires.2))

pub returns : goal.returns
returns c =
    ap (◌% 2 ^ 64) (all-bytes _ _ _ c.quad-a.ensures.0 c.quad-b.ensures.0 c.quad-c.ensures.0 c.quad-d.ensures.0)
