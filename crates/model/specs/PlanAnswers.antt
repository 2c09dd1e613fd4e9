-- What the calls for the first, the next, the fewest-callout plan and a cell's plan answer, over tables of n items and m slots. Assumes nothing.
use Rattle.std.specs.Prelude.{cond, List, [], ◌∷◌, ℕ, leb}
use Rattle.model.specs.declared.Plan.{Plan}
use Rattle.model.specs.declared.PlanAnswer.{PlanAnswer}
use Rattle.model.specs.Refusal.{unless, plan_code}
use Rattle.model.specs.Rota.{table_code}
use Rattle.model.specs.Plans.{plans, blank, is_plan, plans_after}
use Rattle.model.specs.Fewest.{fewest, fewest_plans}
use Rattle.model.specs.CellPlans.{cell_plan}
use Rattle.model.specs.Deficiency.{deficiency, deficient_set}

-- ---- the records

-- success, with a plan and a number of callouts
abbrev pub given : List ℕ → ℕ → PlanAnswer
given p number = record { code = 0; shortage = 0; items = 0; callouts = number; plan = record { slots = p } }

-- refused by a number that stands alone
abbrev pub refused : ℕ → PlanAnswer
refused c = record { code = c; shortage = 0; items = 0; callouts = 0; plan = record { slots = blank } }

-- 9, with a shortage and an item set
abbrev pub short : ℕ → ℕ → PlanAnswer
short by set = record { code = 9; shortage = by; items = set; callouts = 0; plan = record { slots = blank } }

-- 11: the fewest number exceeds the cap
abbrev pub over_cap : ℕ → PlanAnswer
over_cap number = record { code = 11; shortage = 0; items = 0; callouts = number; plan = record { slots = blank } }

-- no complete plan exists: the shortage of docs/RULES.md is the deficiency, its item set the deficient set
unfoldable pub no_plan : List ℕ → PlanAnswer
unfolding deficiency deficient_set
no_plan opens = short (deficiency opens) (deficient_set opens)

-- ---- the calls

-- the first of all complete plans, or 9
unfoldable pub first_of : List ℕ → List (List ℕ) → PlanAnswer
unfolding no_plan
first_of opens [] = no_plan opens
first_of opens (p ∷ rest) = given p 0

unfoldable pub first_from : ℕ → List ℕ → PlanAnswer
unfolding first_of plans
first_from m opens = first_of opens (plans m opens)

unfoldable pub first_answer : ℕ → ℕ → List ℕ → List ℕ → PlanAnswer
unfolding unless table_code first_from
first_answer n m opens callouts = unless refused (table_code n m opens callouts) (first_from m opens)

-- the first of the complete plans after the given one, or 10
unfoldable pub next_of : List (List ℕ) → PlanAnswer
next_of [] = refused 10
next_of (p ∷ rest) = given p 0

-- the same where the given record is a complete plan, else 8
unfoldable pub next_from : ℕ → List ℕ → List ℕ → PlanAnswer
unfolding unless is_plan next_of plans_after
next_from m opens g = unless refused (plan_code (is_plan m opens g)) (next_of (plans_after m opens g))

unfoldable pub next_answer : ℕ → ℕ → List ℕ → List ℕ → Plan → PlanAnswer
unfolding unless table_code next_from
next_answer n m opens callouts g = unless refused (table_code n m opens callouts) (next_from m opens g.slots)

-- the first of the complete plans with the fewest callouts, if that number is at most the cap
unfoldable pub fewest_of : List ℕ → ℕ → ℕ → List (List ℕ) → PlanAnswer
unfolding no_plan
fewest_of opens cap number [] = no_plan opens
fewest_of opens cap number (p ∷ rest) = cond (leb number cap) (given p number) (over_cap number)

unfoldable pub fewest_from : ℕ → List ℕ → List ℕ → ℕ → PlanAnswer
unfolding fewest_of fewest fewest_plans
fewest_from m opens callouts cap = fewest_of opens cap (fewest m opens callouts) (fewest_plans m opens callouts)

unfoldable pub fewest_answer : ℕ → ℕ → List ℕ → List ℕ → ℕ → PlanAnswer
unfolding unless table_code fewest_from
fewest_answer n m opens callouts cap = unless refused (table_code n m opens callouts) (fewest_from m opens callouts cap)

-- a cell's plan, which may be the blank one: no refusal but by the tables
unfoldable pub cell_answer : ℕ → ℕ → List ℕ → List ℕ → ℕ → ℕ → PlanAnswer
unfolding unless table_code cell_plan
cell_answer n m opens callouts i j = unless refused (table_code n m opens callouts) (given (cell_plan m opens i j) 0)
