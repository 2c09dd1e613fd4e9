-- `ryser::full` meets its contract: 127 added, the top bit of a byte stands where it is not 0. Assumes nothing.
use Rattle.std.proofs.Common.{arith}
use Rattle.ryser.proofs.Bytes.{each, room, full_bytes}
use Rattle.ryser.proofs.full.Goals as goal

pub overflow_add-result : goal.overflow_add-result
unfolding each
overflow_add-result c = omega (arith, room _ c.ranges.x.fits c.requires)

pub returns : goal.returns
unfolding each
returns c = full_bytes 8 c.args.x c.requires
