-- Demand 1: "So that a planner may hand over any rota, file or plan, every public call ends, does nothing undefined and either does its
-- work or refuses by the numbers of document 01, in their order. A refusal returns what that table says and changes no lent buffer
-- and no lister." That a call ends and does nothing undefined is what the checker proves of every function; the rest stands here.
-- The numbers and the order of document 01 are those of docs/RULES.md. Assumes nothing.
use Rattle.std.specs.Prelude.{◌≡◌, ◌≢◌, cond, [], ◌∷◌, ◌+◌, ◌*◌, take}
use Rattle.model.specs.declared.PlanAnswer.{PlanAnswer}
use Rattle.model.specs.Plans.{blank}
use Rattle.model.specs.File.{blocks_for, items_in, opens_in, callouts_in}
use Rattle.demands.specs.Calls.{EachFirst, EachNext, EachFewest, EachCell, EachSheet, EachList, EachUsable, EachCount, EachGrade, EachPrice, EachRead}
use Rattle.demands.specs.Calls.{EachUntalliedCount, EachUntalliedGrade, EachUntalliedPrice, EachWrite, EachFileFirst, EachFileNext, EachFileFewest}
use Rattle.demands.specs.Calls.{EachPlanAt, EachPlanNumber, AskNothing}
use Rattle.demands.specs.Tests.{FirstOf, test5, test6, test7, test8, test9, test10, test11, test15, test16, tables, file_tests}

-- a refused answer: the blank plan; item set and shortage 0 but with 9, callouts 0 but with 11
pub record Refused (r : PlanAnswer) : Type 0 where
  pub plan : r.plan.slots ≡ blank
  pub shortage : r.code ≢ 9 → r.shortage ≡ 0
  pub items : r.code ≢ 9 → r.items ≡ 0
  pub callouts : r.code ≢ 11 → r.callouts ≡ 0

pub record Demand1 : Type 2 where
  -- "a planner may hand over any rota, file or plan"
  pub anything : AskNothing
  -- "either does its work or refuses by the numbers of document 01, in their order"
  pub first_code : EachFirst (λ n opens callouts r. FirstOf (tables n opens callouts (test9 opens ∷ [])) r.code)
  pub next_code : EachNext (λ n opens callouts g r. FirstOf (tables n opens callouts (test8 opens g.slots ∷ test10 opens g.slots ∷ [])) r.code)
  -- fresh as the first plan, started as the next
  pub list_code : EachList (λ e n opens callouts r e'.
      FirstOf (tables n opens callouts (cond e.started (test8 opens e.plan.slots ∷ test10 opens e.plan.slots ∷ []) (test9 opens ∷ []))) r.code)
  pub fewest_code : EachFewest (λ n opens callouts cap r. FirstOf (tables n opens callouts (test9 opens ∷ test11 opens callouts cap ∷ [])) r.code)
  pub cell-code : EachCell (λ n opens callouts i j r. FirstOf (tables n opens callouts []) r.code)
  pub sheet-code : EachSheet (λ n opens callouts g old r new. FirstOf (tables n opens callouts (test15 old ((n + 1) * 32) ∷ test8 opens g.slots ∷ [])) r)
  pub usable-code : EachUsable (λ n opens callouts old r new. FirstOf (tables n opens callouts (test15 old n ∷ [])) r)
  pub count_code : EachCount (λ n opens callouts tally r new. FirstOf (tables n opens callouts (test5 n ∷ test6 n tally ∷ [])) r.code)
  pub grade_code : EachGrade (λ n opens callouts tally r new. FirstOf (tables n opens callouts (test5 n ∷ test6 n tally ∷ test9 opens ∷ [])) r.code)
  pub price-code : EachPrice (λ n opens callouts vehicles tally r new.
      FirstOf (tables n opens callouts (test5 n ∷ test6 n tally ∷ test7 vehicles ∷ test9 opens ∷ [])) r.code)
  pub untallied_count_code : EachUntalliedCount (λ n opens callouts r. FirstOf (tables n opens callouts (test5 n ∷ [])) r.code)
  pub untallied_grade_code : EachUntalliedGrade (λ n opens callouts r. FirstOf (tables n opens callouts (test5 n ∷ test9 opens ∷ [])) r.code)
  pub untallied-price-code : EachUntalliedPrice (λ n opens callouts vehicles r.
      FirstOf (tables n opens callouts (test5 n ∷ test7 vehicles ∷ test9 opens ∷ [])) r.code)
  -- 16 is tested after 6
  pub plan-at_code : EachPlanAt (λ n opens callouts k tally r new. FirstOf (tables n opens callouts (test5 n ∷ test6 n tally ∷ test16 n opens k ∷ [])) r.code)
  pub plan-number_code : EachPlanNumber (λ n opens callouts g tally r new.
      FirstOf (tables n opens callouts (test5 n ∷ test6 n tally ∷ test8 opens g.slots ∷ [])) r.code)
  pub read-code : EachRead (λ file o k r o' k'. FirstOf (file_tests file (test15 o (items_in file) ∷ test15 k (items_in file) ∷ [])) r.code)
  pub write-code : EachWrite (λ n opens callouts old r new. FirstOf (tables n opens callouts (test15 old (512 * blocks_for n) ∷ [])) r.code)
  pub file-first_code : EachFileFirst (λ file old r new. FirstOf (file_tests file (test15 old 64 ∷ test9 (opens_in file) ∷ [])) r)
  pub file-next_code : EachFileNext (λ file old r new.
      FirstOf (file_tests file (test15 old 64 ∷ test8 (opens_in file) (take 64 old) ∷ test10 (opens_in file) (take 64 old) ∷ [])) r)
  pub file-fewest_code : EachFileFewest (λ file old cap r new.
      FirstOf (file_tests file (test15 old 64 ∷ test9 (opens_in file) ∷ test11 (opens_in file) (callouts_in file) cap ∷ [])) r)
  -- "A refusal returns what that table says": "zeros" means every other number. The item set and shortage of 9 and the number of 11
  -- are demand 2's.
  pub first-refused : EachFirst (λ n opens callouts r. r.code ≢ 0 → Refused r)
  pub next-refused : EachNext (λ n opens callouts g r. r.code ≢ 0 → Refused r)
  pub list_refused : EachList (λ e n opens callouts r e'. r.code ≢ 0 → Refused r)
  pub fewest-refused : EachFewest (λ n opens callouts cap r. r.code ≢ 0 → Refused r)
  pub cell-refused : EachCell (λ n opens callouts i j r. r.code ≢ 0 → Refused r)
  pub count-refused : EachCount (λ n opens callouts tally r new. r.code ≢ 0 → r.count ≡ 0)
  pub grade-refused : EachGrade (λ n opens callouts tally r new. r.code ≢ 0 → (r.grade ≡ 0) × (r.code ≢ 9 → (r.shortage ≡ 0) × (r.items ≡ 0)))
  pub price-refused : EachPrice (λ n opens callouts vehicles tally r new. r.code ≢ 0 → (r.cents ≡ 0) × (r.code ≢ 9 → (r.shortage ≡ 0) × (r.items ≡ 0)))
  pub untallied_count-refused : EachUntalliedCount (λ n opens callouts r. r.code ≢ 0 → r.count ≡ 0)
  pub untallied_grade-refused : EachUntalliedGrade (λ n opens callouts r.
      r.code ≢ 0 → (r.grade ≡ 0) × (r.code ≢ 9 → (r.shortage ≡ 0) × (r.items ≡ 0)))
  pub untallied_price-refused : EachUntalliedPrice (λ n opens callouts vehicles r.
      r.code ≢ 0 → (r.cents ≡ 0) × (r.code ≢ 9 → (r.shortage ≡ 0) × (r.items ≡ 0)))
  pub plan-at-refused : EachPlanAt (λ n opens callouts k tally r new.
      r.code ≢ 0 → (r.plan.slots ≡ blank) × (r.shortage ≡ 0) × (r.items ≡ 0) × (r.callouts ≡ 0))
  pub plan-number-refused : EachPlanNumber (λ n opens callouts g tally r new. r.code ≢ 0 → r.number ≡ 0)
  pub read-refused : EachRead (λ file o k r o' k'. r.code ≢ 0 → r.n ≡ 0)
  pub write-refused : EachWrite (λ n opens callouts old r new. r.code ≢ 0 → r.bytes ≡ 0)
  -- "and changes no lent buffer and no lister"
  pub list_keeps : EachList (λ e n opens callouts r e'. r.code ≢ 0 → e' ≡ e)
  pub sheet-keeps : EachSheet (λ n opens callouts g old r new. r ≢ 0 → new ≡ old)
  pub usable-keeps : EachUsable (λ n opens callouts old r new. r ≢ 0 → new ≡ old)
  pub count-keeps : EachCount (λ n opens callouts tally r new. r.code ≢ 0 → new ≡ tally)
  pub grade-keeps : EachGrade (λ n opens callouts tally r new. r.code ≢ 0 → new ≡ tally)
  pub price-keeps : EachPrice (λ n opens callouts vehicles tally r new. r.code ≢ 0 → new ≡ tally)
  pub plan-at-keeps : EachPlanAt (λ n opens callouts k tally r new. r.code ≢ 0 → new ≡ tally)
  pub plan-number-keeps : EachPlanNumber (λ n opens callouts g tally r new. r.code ≢ 0 → new ≡ tally)
  pub read_keeps : EachRead (λ file o k r o' k'. r.code ≢ 0 → (o' ≡ o) × (k' ≡ k))
  pub write_keeps : EachWrite (λ n opens callouts old r new. r.code ≢ 0 → new ≡ old)
  pub file-first-keeps : EachFileFirst (λ file old r new. r ≢ 0 → new ≡ old)
  pub file-next-keeps : EachFileNext (λ file old r new. r ≢ 0 → new ≡ old)
  pub file-fewest-keeps : EachFileFewest (λ file old cap r new. r ≢ 0 → new ≡ old)
