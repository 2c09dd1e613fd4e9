-- Refused by the tables, or the search's answer. Assumes nothing.
use Rattle.std.proofs.Common.{◌∙◌}
use Rattle.model.specs.PlanAnswers.{refused, next_answer}
use Rattle.model.proofs.Refusals.{answers_number}
use Rattle.rota.proofs.TableCalls.{passes, few-items, next_found}
use Rattle.rota.proofs.plans.rota_next_plan.Goals as goal

pub returns-in-Err : goal.returns-in-Err
unfolding next_answer
returns-in-Err c = c.refused.ensures ∙ answers_number _ _ c.in-Err.ensures refused _

pub next_plan-requires : goal.next_plan-requires
next_plan-requires c = few-items (passes c.in_default.ensures)

pub returns : goal.returns
returns c = c.next_plan.ensures ∙ next_found (passes c.in_default.ensures) _
