-- Refused by the file or for room, or the search's answer is stored. Assumes nothing.
use Rattle.std.proofs.Common.{rules, ◌≡◌, ◌≤◌, ◌∙◌, ap, length, take, length-take, arith}
use Rattle.model.specs.declared.Plan.{Plan}
use Rattle.model.specs.PlanAnswers.{next_answer, next_from}
use Rattle.rota.proofs.OnFiles.{PlanCall, answered, searched, room_for_plan}
use Rattle.rota.proofs.file_plans.rota_file_next_plan.Goals as goal

-- the call for the plan after the one in the buffer
abbrev after : Plan → PlanCall
after g n m opens callouts = next_answer n m opens callouts g

pub plan_into-requires : goal.plan_into-requires
plan_into-requires c = λ rota given z is same.
    let room : 64 ≤ length given.now = rw same (room_for_plan _ _ _ z) in
    let few : length (take rota.now.n rota.now.opens) ≤ 64 = omega (arith, length-take rota.now.n rota.now.opens, rota.now.few) in
    search rules

pub returns : goal.returns
returns c =
    let g : Plan = record { slots = take 64 c.args.plan.now } in
    answered _ _ c.args.plan.now (after g) c.plan_into.ensures.refused (λ z.
    let f = c.plan_into.ensures.answered z in
    let e : f.2 ≡ next_from 64 (take f.0.now.n f.0.now.opens) (take 64 f.1.now) = search rules in (
      f.2,
      e ∙ ap (λ b. next_from 64 (take f.0.now.n f.0.now.opens) (take 64 b)) f.4
          ∙ (searched _ _ _ z f.0.now f.3).next g,
      f.6,
      f.7,
    ))
