-- Refused by the tables, or the search's answer. Assumes nothing.
use Rattle.std.proofs.Common.{◌∙◌}
use Rattle.model.specs.PlanAnswers.{refused, fewest_answer}
use Rattle.model.proofs.Refusals.{answers_number}
use Rattle.min_cost.proofs.Squares.{squared}
use Rattle.rota.proofs.TableCalls.{passes, fewest_found}
use Rattle.rota.proofs.plans.rota_fewest_callouts.Goals as goal

pub returns-in-Err : goal.returns-in-Err
unfolding fewest_answer
returns-in-Err c = c.refused.ensures ∙ answers_number _ _ c.in-Err.ensures refused _

pub fewest_plan-requires : goal.fewest_plan-requires
fewest_plan-requires c = squared _ _ _ (passes c.in_default.ensures).code

pub returns : goal.returns
returns c = c.fewest_plan.ensures ∙ fewest_found (passes c.in_default.ensures) _
