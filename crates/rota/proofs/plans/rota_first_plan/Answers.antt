-- Refused by the tables, or the search's answer. Assumes nothing.
use Rattle.std.proofs.Common.{◌∙◌}
use Rattle.model.specs.PlanAnswers.{refused, first_answer}
use Rattle.model.proofs.Refusals.{answers_number}
use Rattle.rota.proofs.TableCalls.{passes, few-items, first_found}
use Rattle.rota.proofs.plans.rota_first_plan.Goals as goal

pub returns-in-Err : goal.returns-in-Err
unfolding first_answer
returns-in-Err c = c.refused.ensures ∙ answers_number _ _ c.in-Err.ensures refused _

pub first_plan-requires : goal.first_plan-requires
first_plan-requires c = few-items (passes c.in_default.ensures)

pub returns : goal.returns
returns c = c.first_plan.ensures ∙ first_found (passes c.in_default.ensures)
