-- `write_line` meets its contract: the blank line is copied over the part, then the columns are written. Assumes nothing.
use Rattle.std.proofs.Common.{refl, sym, ◌∙◌, arith}
use Rattle.model.proofs.Parts.{copied}
use Rattle.sheet.proofs.SheetLines.{blank_line, line-written}
use Rattle.sheet.proofs.write_line.Goals as goal

pub returns : goal.returns
returns c =
    line-written c.args.left c.args.middle c.args.mark c.args.part.now (omega arith) (omega arith) c.requires
    (c.copy_from_slice.ensures.after ∙ sym (copied 32 blank_line c.args.part.now refl (omega arith)))
