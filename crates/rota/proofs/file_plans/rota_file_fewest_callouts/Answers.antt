-- Refused by the file or for room, or the search's answer is stored. Assumes nothing.
use Rattle.std.proofs.Common.{rules, ℕ, ◌≡◌, ◌∙◌, take}
use Rattle.model.specs.PlanAnswers.{fewest_answer, fewest_from}
use Rattle.model.proofs.Editions.{one_slots}
use Rattle.rota.proofs.OnFiles.{PlanCall, answered, searched}
use Rattle.rota.proofs.file_plans.rota_file_fewest_callouts.Goals as goal

-- the call for the fewest callouts up to a cap
abbrev up_to : ℕ → PlanCall
up_to cap n m opens callouts = fewest_answer n m opens callouts cap

pub plan_into-requires : goal.plan_into-requires
plan_into-requires c = λ rota given z is same.
    let square = (searched _ _ _ z rota.now is).square (one_slots _) in
    search rules

pub returns : goal.returns
returns c =
    let cap = c.args.cap in
    answered _ _ c.args.plan.now (up_to cap) c.plan_into.ensures.refused (λ z.
    let f = c.plan_into.ensures.answered z in
    let r = f.0.now in
    let e : f.2 ≡ fewest_from 64 (take r.n r.opens) (take r.n r.callouts) cap = search rules in
    (f.2, e ∙ (searched _ _ _ z r f.3).fewest cap, f.6, f.7))
