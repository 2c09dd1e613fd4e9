-- Count, grade and price without a tally: the number is that of a square table, and the answers are those by the tests up to 5, and 7. Assumes
-- nothing.
use mathlib.Core.Path.{◌≡◌, sym, ap, ◌∙◌, subst}
use mathlib.Core.Logic.{◌≢◌}
use mathlib.Core.List.{List}
use Prim.Native.Nat.{ℕ, ◌≤◌}
use lib.ListN.{length}
use Rattle.std.specs.Prelude.{Err}
use Rattle.model.specs.declared.Refusal.{Refusal}
use Rattle.model.specs.declared.PlanAnswer.{PlanAnswer}
use Rattle.model.specs.declared.CountAnswer.{CountAnswer}
use Rattle.model.specs.declared.GradeAnswer.{GradeAnswer}
use Rattle.model.specs.declared.PriceAnswer.{PriceAnswer}
use Rattle.model.specs.Refusal.{unless, number, code_of}
use Rattle.model.specs.Count.{count}
use Rattle.model.specs.Grade.{some_forced, grade_of, monthly_price}
use Rattle.model.specs.CountAnswers.{count_refused, count_unless, sized_code, untallied_count}
use Rattle.model.specs.PlanAnswers.{first_from, fewest_from}
use Rattle.model.specs.PriceAnswers.{grade_given, grade_refused, grade_short, grade_unless, untallied_grade}
use Rattle.model.specs.PriceAnswers.{price_given, price_refused, price_short, price_unless, untallied_price_code, untallied_price}
use Rattle.model.proofs.Accepted.{tables-from}
use Rattle.model.proofs.Refusals.{neither_refuses, fleet_passed, answers_number}
use Rattle.rota.proofs.Countable.{Countable, countable, counted, grade_ends, graded}
use Rattle.rota.proofs.Priced.{price_ends, priced}

module _ {n : ℕ} {opens callouts : List ℕ} {code : ℕ} (able : Countable n n opens callouts code) where
  pub rows : length opens ≡ n
  rows = (tables-from n n opens callouts able.passed.code).open_words

  pub few-rows : length opens ≤ 20
  few-rows = subst (◌≤ 20) (sym rows) able.few

  pub square : {number : ℕ} → number ≡ count (length opens) opens → number ≡ count n opens
  square q = q ∙ ap (λ m. count m opens) rows

module _ (n : ℕ) (opens callouts : List ℕ) where
  pub sized : sized_code n n opens callouts ≡ 0 → Countable n n opens callouts (sized_code n n opens callouts)
  sized z = countable n n opens callouts z z

  pub count-refused : (r : Refusal) → code_of {A = Unit {0}} (Err r) ≡ sized_code n n opens callouts
      → {a : CountAnswer} → a ≡ count_refused (number r) → a ≡ untallied_count n n opens callouts
  unfolding untallied_count count_unless
  count-refused r e q = q ∙ answers_number (Unit {0}) r e count_refused _

  pub count_done : sized_code n n opens callouts ≡ 0 → {number : ℕ} → number ≡ count (length opens) opens
      → {a : CountAnswer} → a ≡ record { code = 0; count = number } → a ≡ untallied_count n n opens callouts
  unfolding untallied_count
  count_done z q e = counted (sized z) (square (sized z) q) e

  module _ {code : ℕ} (e : code ≡ sized_code n n opens callouts) where
    able : code ≡ 0 → Countable n n opens callouts (sized_code n n opens callouts)
    able z = sized (sym e ∙ z)

    pub grade-ends : (found : PlanAnswer) → (code ≡ 0 → (found ≡ first_from 64 opens) × (found.code ≢ 0))
        → {a : GradeAnswer} → a ≡ unless grade_refused code (grade_short found.shortage found.items) → a ≡ untallied_grade n n opens callouts
    unfolding untallied_grade
    grade-ends found F q = (grade_ends code (λ z. (able z).passed) found F q).0 ∙ ap (λ c. grade_unless c n opens) e

    pub grade_done : code ≡ 0 → {found : PlanAnswer} → found ≡ first_from 64 opens → found.code ≡ 0
        → {number : ℕ} → number ≡ count (length opens) opens → {g : ℕ} → g ≡ grade_of number (some_forced 64 opens)
        → {a : GradeAnswer} → a ≡ grade_given g → a ≡ untallied_grade n n opens callouts
    unfolding untallied_grade
    grade_done z f y q = graded (able z) f y (square (able z) q)

  module _ (vehicles : ℕ) where
    pub sized_price : untallied_price_code n n opens callouts vehicles ≡ 0
        → Countable n n opens callouts (untallied_price_code n n opens callouts vehicles) × (vehicles ≤ 10000)
    unfolding untallied_price_code
    sized_price z = let a = neither_refuses _ _ z in (countable n n opens callouts z a.0, (fleet_passed vehicles a.1).1)

    module _ {code : ℕ} (e : code ≡ untallied_price_code n n opens callouts vehicles) where
      fit : code ≡ 0 → Countable n n opens callouts (untallied_price_code n n opens callouts vehicles)
      fit z = (sized_price (sym e ∙ z)).0

      pub price-ends : (found : PlanAnswer) → (code ≡ 0 → (found ≡ fewest_from 64 opens callouts 64) × (found.code ≢ 0))
          → {a : PriceAnswer} → a ≡ unless price_refused code (price_short found.shortage found.items)
          → a ≡ untallied_price n n opens callouts vehicles
      unfolding untallied_price
      price-ends found F q =
          (price_ends vehicles code (λ z. (fit z).passed) found F q).0 ∙ ap (λ c. price_unless c n opens callouts vehicles) e

      pub price_done : code ≡ 0 → {found : PlanAnswer} → found ≡ fewest_from 64 opens callouts 64 → found.code ≡ 0
          → {number : ℕ} → number ≡ count (length opens) opens → {c : ℕ} → c ≡ monthly_price (grade_of number (some_forced 64 opens)) vehicles found.callouts
          → {a : PriceAnswer} → a ≡ price_given c → a ≡ untallied_price n n opens callouts vehicles
      unfolding untallied_price
      price_done z f y q = priced (fit z) f y (square (fit z) q) vehicles
