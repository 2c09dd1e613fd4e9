-- The first plan of the cut words is the cell's. Assumes nothing.
use Rattle.std.proofs.Common.{◌∙◌}
use Rattle.maximum.proofs.Deficient.{exposed_no_plan}
use Rattle.least.proofs.Firsts.{filled_settleable}
use Rattle.cell.proofs.Cuts.{cell_takeable, cell-fillable, cut_found, cut-none}
use Rattle.cell.proofs.open_cell_plan.Goals as goal

pub take-requires : goal.take-requires
take-requires c = rw c.empty-m.ensures (cell_takeable c.requires (λ x h. (c.type_inv.opens x).fits) c.cut-table.ensures)

pub fill-left-requires : goal.fill-left-requires
fill-left-requires c =
    rw c.without-others.ensures
    (cell-fillable c.requires (λ x h. (c.type_inv.opens x).fits) c.cut-table.ensures (rw c.empty-m.ensures at c.take.ensures) c.low.ensures)

pub returns-then-left-ne0 : goal.returns-then-left-ne0
returns-then-left-ne0 c =
    c.unused.ensures
    ∙ cut-none c.requires (λ x h. (c.type_inv.opens x).fits) c.cut-table.ensures (exposed_no_plan _ _ _ _ _ _ c.fill-left.ensures c.if-left-ne0.true)

pub settle-requires : goal.settle-requires
settle-requires c = filled_settleable c.fill-left.ensures c.if-left-ne0.false

pub returns : goal.returns
returns c = c.given.ensures ∙ cut_found c.requires (λ x h. (c.type_inv.opens x).fits) c.cut-table.ensures c.settle.ensures
