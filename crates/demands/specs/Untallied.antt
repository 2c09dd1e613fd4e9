-- Count, grade and price without a tally: the count "shall equal the tally's count for every accepted rota that 5 lets through, a count of 0
-- included. Grade and price get a second form that uses it and takes no tally. [..] none gives 6." That each equals its definition is demand 2's,
-- and which numbers are given is demand 1's; here stand the calls of both kinds side by side. Assumes nothing.
use Rattle.std.specs.Prelude.{◌≡◌, ◌≢◌, ◌+◌, ◌-◌, ◌%◌, ◌^◌}
use Rattle.model.specs.Ryser.{added_terms, taken_terms}
use Rattle.model.specs.CountAnswers.{count_answer}
use Rattle.model.specs.PriceAnswers.{grade_answer, price_answer}
use Rattle.demands.specs.Calls.{EachCount, EachGrade, EachPrice, EachUntalliedCount, EachUntalliedGrade, EachUntalliedPrice}

pub record Untallied : Type 1 where
  -- over the same tables both answer the same, wherever 6 does not refuse the one with a tally
  pub count_same : EachCount (λ n opens callouts tally r new. r.code ≢ 6
      → EachUntalliedCount (λ n' opens' callouts' r'. n' ≡ n → opens' ≡ opens → callouts' ≡ callouts → r' ≡ r))
  pub grade-same : EachGrade (λ n opens callouts tally r new. r.code ≢ 6
      → EachUntalliedGrade (λ n' opens' callouts' r'. n' ≡ n → opens' ≡ opens → callouts' ≡ callouts → r' ≡ r))
  pub price-same : EachPrice (λ n opens callouts vehicles tally r new. r.code ≢ 6
      → EachUntalliedPrice (λ n' opens' callouts' vehicles' r'. n' ≡ n → opens' ≡ opens → callouts' ≡ callouts → vehicles' ≡ vehicles → r' ≡ r))
  -- where 6 does, and everywhere else: as a tally of 2 to the power n words makes the other answer
  pub count_enough : EachUntalliedCount (λ n opens callouts r. r ≡ count_answer n n opens callouts (2 ^ n))
  pub grade_enough : EachUntalliedGrade (λ n opens callouts r. r ≡ grade_answer n n opens callouts (2 ^ n))
  pub price_enough : EachUntalliedPrice (λ n opens callouts vehicles r. r ≡ price_answer n n opens callouts vehicles (2 ^ n))
  -- "none gives 6"
  pub count-not_6 : EachUntalliedCount (λ n opens callouts r. r.code ≢ 6)
  pub grade-not_6 : EachUntalliedGrade (λ n opens callouts r. r.code ≢ 6)
  pub price-not_6 : EachUntalliedPrice (λ n opens callouts vehicles r. r.code ≢ 6)
  -- the count is the signed sum of Ryser's formula: over the integers, and modulo 2 to the power 64
  pub formula : EachUntalliedCount (λ n opens callouts r. r.code ≡ 0 → added_terms n opens ≡ taken_terms n opens + r.count)
  pub formula_modulo : EachUntalliedCount (λ n opens callouts r. r.code ≡ 0
      → (added_terms n opens + (2 ^ 64 - taken_terms n opens % 2 ^ 64)) % 2 ^ 64 ≡ r.count)
