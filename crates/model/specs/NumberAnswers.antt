-- What the calls for a plan by its number and for a plan's number answer, and the tally that they leave: its words are those of the last
-- items. Assumes nothing.
use Rattle.std.specs.Prelude.{List, ℕ, length}
use Rattle.model.specs.declared.Plan.{Plan}
use Rattle.model.specs.declared.PlanAnswer.{PlanAnswer}
use Rattle.model.specs.declared.NumberAnswer.{NumberAnswer}
use Rattle.model.specs.Refusal.{or_else, unless, written, number_code, plan_code}
use Rattle.model.specs.Plans.{is_plan}
use Rattle.model.specs.PlanAnswers.{given, refused}
use Rattle.model.specs.Count.{count, last_counts}
use Rattle.model.specs.CountAnswers.{count_code}
use Rattle.model.specs.Ranks.{unrank, rank}

-- ---- plan number k

unfoldable pub plan_at_code : ℕ → ℕ → List ℕ → List ℕ → ℕ → ℕ → ℕ
unfolding or_else count_code count
plan_at_code n m opens callouts k words = or_else (count_code n m opens callouts words) (number_code k (count m opens))

unfoldable pub plan_at_answer : ℕ → ℕ → List ℕ → List ℕ → ℕ → ℕ → PlanAnswer
unfolding unless plan_at_code unrank
plan_at_answer n m opens callouts k words = unless refused (plan_at_code n m opens callouts k words) (given (unrank m opens k) 0)

unfoldable pub plan_at_tally : ℕ → ℕ → List ℕ → List ℕ → ℕ → List ℕ → List ℕ
unfolding written plan_at_answer last_counts
plan_at_tally n m opens callouts k tally = written (plan_at_answer n m opens callouts k (length tally)).code (last_counts m opens) tally

-- ---- the number of a given plan

abbrev pub number_given : ℕ → NumberAnswer
number_given k = record { code = 0; number = k }

abbrev pub number_refused : ℕ → NumberAnswer
number_refused c = record { code = c; number = 0 }

unfoldable pub plan_number_code : ℕ → ℕ → List ℕ → List ℕ → Plan → ℕ → ℕ
unfolding or_else count_code is_plan
plan_number_code n m opens callouts g words = or_else (count_code n m opens callouts words) (plan_code (is_plan m opens g.slots))

unfoldable pub plan_number_answer : ℕ → ℕ → List ℕ → List ℕ → Plan → ℕ → NumberAnswer
unfolding unless plan_number_code rank
plan_number_answer n m opens callouts g words = unless number_refused (plan_number_code n m opens callouts g words) (number_given (rank m opens g.slots))

unfoldable pub plan_number_tally : ℕ → ℕ → List ℕ → List ℕ → Plan → List ℕ → List ℕ
unfolding written plan_number_answer last_counts
plan_number_tally n m opens callouts g tally = written (plan_number_answer n m opens callouts g (length tally)).code (last_counts m opens) tally
