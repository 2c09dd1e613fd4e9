-- The matching is filled and settled, or the exposed items and the dead slots give the deficient set. Assumes nothing.
use Rattle.std.proofs.Common.{◌∙◌}
use Rattle.maximum.proofs.Filling.{all-fillable}
use Rattle.least.proofs.Firsts.{filled_settleable, first_found, first-none}
use Rattle.least.proofs.first_plan.Goals as goal

pub fill-left-requires : goal.fill-left-requires
fill-left-requires c = rw c.empty-m.ensures (all-fillable _ c.requires (λ x h. (c.type_inv.opens x).fits) _ c.low.ensures)

pub returns-then-left-ne0 : goal.returns-then-left-ne0
returns-then-left-ne0 c = c.no_plan.ensures ∙ first-none c.fill-left.ensures c.if-left-ne0.true

pub settle-requires : goal.settle-requires
settle-requires c = filled_settleable c.fill-left.ensures c.if-left-ne0.false

pub returns : goal.returns
returns c = c.given.ensures ∙ first_found _ c.requires (λ x h. (c.type_inv.opens x).fits) c.settle.ensures
