-- No block yet, one block more, and all of them. Assumes nothing.
use Rattle.std.proofs.Common.{◌∙◌, ap, arith}
use Rattle.file_blocks.proofs.Checking.{Checking, left_all, left_more, checking_end}
use Rattle.file_blocks.proofs.reader.check_blocks.Goals as goal

pub loop-init : goal.loop-init
loop-init c = record {
  file = ap (λ s. s.now) c.start-reader.ensures.0;
  next = c.start-reader.ensures.1;
  left = rw c.start-reader.ensures.1 (left_all c.args.edition c.args.file.now);
}

pub loop-preserved : goal.loop-preserved
loop-preserved c =
    let i = c.loop.invariant in
    let t : Checking c.args.edition c.args.file.now
    = record { next = c.loop.reader.next; found = c.loop.found; within = omega arith; left = i.left } in
    record {
      file = ap (λ s. s.now) c.advanced-reader.ensures.0 ∙ i.file;
      next = omega arith;
      left = rw (c.advanced-reader.ensures.1, c.check-found.ensures, i.file) (left_more c.args.edition c.args.file.now t (omega arith));
    }

pub returns : goal.returns
returns c =
    let i = c.loop.invariant in
    let t : Checking c.args.edition c.args.file.now
    = record { next = c.loop.reader.next; found = c.loop.found; within = omega arith; left = i.left } in
    checking_end c.args.edition c.args.file.now t (omega arith)
