-- A change of the grade's rules, over whole answers: what the four calls of grade and price answered by the grades before it, and which of these
-- answers are others now. Each change so far takes rotas to grade 2. Assumes nothing.
use Rattle.std.specs.Prelude.{◌≡◌, ◌⊎◌, List, ℕ, ◌<◌, length}
use Rattle.std.specs.Int.Count.{ones}
use Rattle.model.specs.declared.GradeAnswer.{GradeAnswer}
use Rattle.model.specs.declared.PriceAnswer.{PriceAnswer}
use Rattle.model.specs.Allowed.{allowed_word}
use Rattle.model.specs.Fewest.{fewest}
use Rattle.model.specs.Count.{count, subset_counts}
use Rattle.model.specs.Grade.{monthly_price}
use Rattle.model.specs.Refusal.{unless, written}
use Rattle.model.specs.CountAnswers.{sized_code, count_code}
use Rattle.model.specs.PriceAnswers.{grade_given, grade_refused, grade_by, price_given, price_refused, price_by, untallied_price_code, price_code}
use Rattle.demands.specs.Calls.{EachGrade, EachPrice, EachUntalliedGrade, EachUntalliedPrice}

-- ---- before

-- the answers by the grade that rotas had; the number is that of the first refusal, by the same tests as now
unfoldable pub grade_was : (ℕ → List ℕ → ℕ) → ℕ → ℕ → List ℕ → GradeAnswer
grade_was before code n opens = unless grade_refused code (grade_by opens (count n opens) (before n opens))

unfoldable pub price_was : (ℕ → List ℕ → ℕ) → ℕ → ℕ → List ℕ → List ℕ → ℕ → PriceAnswer
price_was before code n opens callouts vehicles =
    unless price_refused code (price_by opens (count n opens) (monthly_price (before n opens) vehicles (fewest n opens callouts)))

-- ---- before and now

-- one usable slot is left to some item
abbrev pub OneUsable : ℕ → List ℕ → Type 0
OneUsable n opens = (i : ℕ) × (i < length opens) × (ones (allowed_word n opens i) ≡ 1)

-- an answer with this number, and the one before: where the rota gets a grade and is concerned, both are known; every other answer is as before
pub record Moved {A : Type 0} (Concerned : Type 0) (code : ℕ) (was is from to : A) : Type 0 where
  pub moves : code ≡ 0 → Concerned → (was ≡ from) × (is ≡ to)
  pub stays : (is ≡ was) ⊎ ((code ≡ 0) × Concerned)

pub record Regrading (before : ℕ → List ℕ → ℕ) (Concerned : ℕ → List ℕ → Type 0) : Type 1 where
  pub grade : EachGrade (λ n opens callouts tally r new.
      Moved (Concerned n opens) r.code (grade_was before (count_code n n opens callouts (length tally)) n opens) r
      (grade_given (before n opens)) (grade_given 2))
  pub untallied-grade : EachUntalliedGrade (λ n opens callouts r.
      Moved (Concerned n opens) r.code (grade_was before (sized_code n n opens callouts) n opens) r (grade_given (before n opens)) (grade_given 2))
  -- the rate changes, the callouts' part does not
  pub price : EachPrice (λ n opens callouts vehicles tally r new.
      Moved (Concerned n opens) r.code (price_was before (price_code n n opens callouts vehicles (length tally)) n opens callouts vehicles) r
      (price_given (monthly_price (before n opens) vehicles (fewest n opens callouts))) (price_given (monthly_price 2 vehicles (fewest n opens callouts))))
  pub untallied-price : EachUntalliedPrice (λ n opens callouts vehicles r.
      Moved (Concerned n opens) r.code (price_was before (untallied_price_code n n opens callouts vehicles) n opens callouts vehicles) r
      (price_given (monthly_price (before n opens) vehicles (fewest n opens callouts))) (price_given (monthly_price 2 vehicles (fewest n opens callouts))))
  -- where it changes, the price rises
  pub price_rises : EachPrice (λ n opens callouts vehicles tally r new. r.code ≡ 0 → Concerned n opens
      → (price_was before (price_code n n opens callouts vehicles (length tally)) n opens callouts vehicles).cents < r.cents)
  pub untallied_price_rises : EachUntalliedPrice (λ n opens callouts vehicles r. r.code ≡ 0 → Concerned n opens
      → (price_was before (untallied_price_code n n opens callouts vehicles) n opens callouts vehicles).cents < r.cents)
  -- every tally is as before
  pub grade-tally : EachGrade (λ n opens callouts tally r new.
      new ≡ written (grade_was before (count_code n n opens callouts (length tally)) n opens).code (subset_counts n opens) tally)
  pub price-tally : EachPrice (λ n opens callouts vehicles tally r new.
      new ≡ written (price_was before (price_code n n opens callouts vehicles (length tally)) n opens callouts vehicles).code (subset_counts n opens) tally)
