-- Refused by the tables, or the search's answer. Assumes nothing.
use Rattle.std.proofs.Common.{◌∙◌}
use Rattle.model.specs.PlanAnswers.{refused, cell_answer}
use Rattle.model.proofs.Refusals.{answers_number}
use Rattle.rota.proofs.TableCalls.{passes, few-items, cell_found}
use Rattle.rota.proofs.plans.rota_cell_plan.Goals as goal

pub returns-in-Err : goal.returns-in-Err
unfolding cell_answer
returns-in-Err c = c.refused.ensures ∙ answers_number _ _ c.in-Err.ensures refused _

pub cell_plan-requires : goal.cell_plan-requires
cell_plan-requires c = few-items (passes c.in_default.ensures)

pub returns : goal.returns
returns c = c.cell_plan.ensures ∙ cell_found (passes c.in_default.ensures) _ _
