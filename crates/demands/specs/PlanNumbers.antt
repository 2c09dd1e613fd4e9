-- Plans by their numbers: "Given k from 0, give the plan with k plans before it; given a plan, its number. The two undo each other for every k below
-- the count, and plan k is the one a fresh lister gives at call k + 1 over the same rota. This is for up to 20 items and is lent a tally; on success
-- its word S holds the number of ways to give the slots of S, all of them, to the last items, as many as S has bits, and further words keep their
-- values." Which numbers refuse, 16 and 8 among them, and what a refusal returns and keeps is in demand 1. Assumes nothing.
use Rattle.std.specs.Prelude.{◌≡◌, ◌↔◌, false, List, map, ◌^◌, ◌≤◌, ◌<◌, length, get_or}
use Rattle.model.specs.declared.PlanAnswer.{PlanAnswer}
use Rattle.model.specs.declared.Lister.{Lister}
use Rattle.model.specs.Lists.{Before}
use Rattle.model.specs.Rota.{table_code}
use Rattle.model.specs.Plans.{IsPlan}
use Rattle.model.specs.Count.{permanent, last_count}
use Rattle.model.specs.Ranks.{rank}
use Rattle.model.specs.PlanAnswers.{given}
use Rattle.model.specs.NumberAnswers.{number_given}
use Rattle.model.specs.Listing.{own_answers}
use Rattle.demands.specs.Calls.{EachPlanAt, EachPlanNumber}
use Rattle.demands.specs.Demand2.{Tallied}
use Rattle.demands.specs.Demand3.{ListedCall, made, CallsFrom}

pub record PlanNumbers : Type 1 where
  -- "the plan with k plans before it", and zeros
  pub plan-at : EachPlanAt (λ n opens callouts k tally r new. r.code ≡ 0
      → IsPlan opens r.plan.slots × (rank n opens r.plan.slots ≡ k) × (r.shortage ≡ 0) × (r.items ≡ 0) × (r.callouts ≡ 0))
  -- "its number", which is below the count
  pub plan-number : EachPlanNumber (λ n opens callouts g tally r new. r.code ≡ 0
      → IsPlan opens g.slots × (r.number ≡ rank n opens g.slots) × (r.number < permanent n opens))
  -- "for every k below the count", and for every complete plan: over an accepted rota of up to 20 items neither is refused
  pub every-number : EachPlanAt (λ n opens callouts k tally r new. table_code n n opens callouts ≡ 0 → n ≤ 20 → 2 ^ n ≤ length tally → k < permanent n opens
      → r.code ≡ 0)
  pub every-plan : EachPlanNumber (λ n opens callouts g tally r new. table_code n n opens callouts ≡ 0 → n ≤ 20 → 2 ^ n ≤ length tally → IsPlan opens g.slots
      → r.code ≡ 0)
  -- "The two undo each other": the number of plan k is k, and the plan of a plan's number is that plan
  pub number_of_plan : EachPlanAt (λ n opens callouts k tally r new. r.code ≡ 0
      → EachPlanNumber (λ n' opens' callouts' g tally' r' new'. n' ≡ n → opens' ≡ opens → callouts' ≡ callouts → g ≡ r.plan → 2 ^ n ≤ length tally'
      → r' ≡ number_given k))
  pub plan_of_number : EachPlanNumber (λ n opens callouts g tally r new. r.code ≡ 0
      → EachPlanAt (λ n' opens' callouts' k tally' r' new'. n' ≡ n → opens' ≡ opens → callouts' ≡ callouts → k ≡ r.number → 2 ^ n ≤ length tally'
      → r' ≡ given g.slots 0))
  -- "plan k is the one a fresh lister gives at call k + 1 over the same rota"
  pub as_listed : EachPlanAt (λ n opens callouts k tally r new. r.code ≡ 0
      → (e : Lister) → e.started ≡ false → (calls : List ListedCall) → CallsFrom n opens callouts e calls → k < length (own_answers (map made calls))
      → (none : PlanAnswer) → get_or (own_answers (map made calls)) k none ≡ r)
  -- numbers are in the plans' order
  pub plans_in_order : EachPlanAt (λ n opens callouts k tally r new. r.code ≡ 0
      → EachPlanAt (λ n' opens' callouts' k' tally' r' new'. n' ≡ n → opens' ≡ opens → r'.code ≡ 0
      → (k < k') ↔ Before r.plan.slots r'.plan.slots))
  pub numbers_in_order : EachPlanNumber (λ n opens callouts g tally r new. r.code ≡ 0
      → EachPlanNumber (λ n' opens' callouts' g' tally' r' new'. n' ≡ n → opens' ≡ opens → r'.code ≡ 0
      → (r.number < r'.number) ↔ Before g.slots g'.slots))
  -- "to the last items, as many as S has bits, and further words keep their values"
  pub plan-at_tally : EachPlanAt (λ n opens callouts k tally r new. r.code ≡ 0 → Tallied n (last_count n opens) tally new)
  pub plan-number_tally : EachPlanNumber (λ n opens callouts g tally r new. r.code ≡ 0 → Tallied n (last_count n opens) tally new)
