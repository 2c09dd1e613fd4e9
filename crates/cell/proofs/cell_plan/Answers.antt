-- No plan holds a cell outside or one that is not open. Assumes nothing.
use Rattle.std.proofs.Common.{ℕ, ◌<◌, sym, ◌∙◌, length, arith}
use Rattle.words.proofs.Bits.{bit_one, bit-none, bit_high}
use Rattle.cell.proofs.Cuts.{item-outside, shut}
use Rattle.cell.proofs.cell_plan.Goals as goal
use Rattle.cell.proofs.cell_plan.Goals.{else-item-opens-via-then-item-opens+then-slot-lt64+else-has}
use Rattle.cell.proofs.cell_plan.Goals.{else-item-opens-via-then-item-opens+else-slot-lt64}
use Rattle.cell.proofs.cell_plan.Goals.{else-item-opens-via-else-item-opens}

pub open_cell_plan-requires : goal.open_cell_plan-requires
open_cell_plan-requires c =
    record { few = c.requires; item = omega arith; slot = omega arith; may = bit_one _ _ (sym c.has.ensures ∙ c.if-has.true) }

pub returns : goal.returns
returns c =
    let range = λ (x : ℕ) (h : x < length c.args.opens.now). (c.type_inv.opens x).fits in
    c.unused.ensures
    ∙ elim c.else-item-opens.branch [
      | else-item-opens-via-then-item-opens+then-slot-lt64+else-has w ↦
          shut _ _ _ c.requires range (bit-none _ _ (sym w.has.ensures ∙ w.if-has.false))
      | else-item-opens-via-then-item-opens+else-slot-lt64 w ↦
          shut _ _ _ c.requires range (bit_high 64 _ _ (c.type_inv.opens _).fits (omega arith))
      | else-item-opens-via-else-item-opens w ↦ item-outside _ _ _ c.requires range (omega arith)
    ]
