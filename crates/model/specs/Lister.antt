-- The lister of docs/RULES.md: what one call answers, and the lister that it leaves. The field calls it an enumerator. Assumes nothing.
use Rattle.std.specs.Prelude.{true, cond, List, ℕ, eqb}
use Rattle.model.specs.declared.PlanAnswer.{PlanAnswer}
use Rattle.model.specs.declared.Lister.{Lister}
use Rattle.model.specs.PlanAnswers.{first_answer, next_answer}

-- fresh: the first plan; started: the one after the plan that it holds
unfoldable pub lister_answer : Lister → ℕ → ℕ → List ℕ → List ℕ → PlanAnswer
unfolding first_answer next_answer
lister_answer e n m opens callouts = cond e.started (next_answer n m opens callouts e.plan) (first_answer n m opens callouts)

-- a success sets the flag and stores the plan given; a refusal changes nothing
unfoldable pub stored : Lister → PlanAnswer → Lister
stored e a = cond (eqb a.code 0) (record { started = true; plan = a.plan }) e

unfoldable pub lister_after : Lister → ℕ → ℕ → List ℕ → List ℕ → Lister
unfolding stored lister_answer
lister_after e n m opens callouts = stored e (lister_answer e n m opens callouts)
