-- Refused by the file or for room, or the search's answer is stored. Assumes nothing.
use Rattle.std.proofs.Common.{rules, ◌≡◌, ◌∙◌, take}
use Rattle.model.specs.PlanAnswers.{first_answer, first_from}
use Rattle.rota.proofs.OnFiles.{answered, searched}
use Rattle.rota.proofs.file_plans.rota_file_first_plan.Goals as goal

pub returns : goal.returns
returns c =
    answered _ _ c.args.plan.now first_answer c.plan_into.ensures.refused (λ z.
    let f = c.plan_into.ensures.answered z in
    let e : f.2 ≡ first_from 64 (take f.0.now.n f.0.now.opens) = search rules in
    (f.2, e ∙ (searched _ _ _ z f.0.now f.3).first, f.6, f.7))
