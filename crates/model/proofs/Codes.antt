-- The number of each call's answer: that of its first refusal, or what the call itself finds. Assumes nothing.
use mathlib.Core.Path.{◌≡◌, refl, ◌∙◌}
use mathlib.Core.List.{List}
use Prim.Native.Nat.{ℕ}
use Rattle.model.specs.declared.Edition.{Edition}
use Rattle.model.specs.declared.Plan.{Plan}
use Rattle.model.specs.declared.PlanAnswer.{PlanAnswer}
use Rattle.model.specs.declared.CountAnswer.{CountAnswer}
use Rattle.model.specs.declared.GradeAnswer.{GradeAnswer}
use Rattle.model.specs.declared.PriceAnswer.{PriceAnswer}
use Rattle.model.specs.declared.NumberAnswer.{NumberAnswer}
use Rattle.model.specs.declared.ReadAnswer.{ReadAnswer}
use Rattle.model.specs.declared.WriteAnswer.{WriteAnswer}
use Rattle.model.specs.Refusal.{or_else, unless}
use Rattle.model.specs.Rota.{table_code}
use Rattle.model.specs.Fewest.{fewest}
use Rattle.model.specs.Count.{count}
use Rattle.model.specs.Grade.{rota_grade, monthly_price}
use Rattle.model.specs.File.{items_in, slots_in, opens_in, callouts_in}
use Rattle.model.specs.PlanAnswers.{refused, first_from, first_answer, next_from, next_answer, fewest_from, fewest_answer, cell_answer}
use Rattle.model.specs.CountAnswers.{count_refused, count_unless, sized_code, untallied_count, count_code, count_answer}
use Rattle.model.specs.PriceAnswers.{grade_refused, grade_by, grade_unless, untallied_grade, grade_answer, price_refused, price_by, price_unless}
use Rattle.model.specs.PriceAnswers.{untallied_price_code, untallied_price, price_code, price_answer}
use Rattle.model.specs.NumberAnswers.{plan_at_code, plan_at_answer, number_refused, plan_number_code, plan_number_answer}
use Rattle.model.specs.FileAnswers.{read_refused, read_code, read_answer, write_refused, write_code, write_answer, plan_file_code, on_file}
use Rattle.model.proofs.Refusals.{or-none, unless_code}

pub plan-code : (code : ℕ) (a : PlanAnswer) → (unless refused code a).code ≡ or_else code a.code
plan-code = unless_code (λ (x : PlanAnswer). x.code) refused (λ c. refl)

module _ (code m : ℕ) (opens : List ℕ) where
  pub counted_code : (count_unless code m opens).code ≡ code
  unfolding count_unless
  counted_code = unless_code (λ (x : CountAnswer). x.code) count_refused (λ c. refl) code _ ∙ or-none _

  pub graded_code : (grade_unless code m opens).code ≡ or_else code (grade_by opens (count m opens) (rota_grade m opens)).code
  unfolding grade_unless
  graded_code = unless_code (λ (x : GradeAnswer). x.code) grade_refused (λ c. refl) code _

  pub priced_code : (callouts : List ℕ) (vehicles : ℕ) → (price_unless code m opens callouts vehicles).code
      ≡ or_else code (price_by opens (count m opens) (monthly_price (rota_grade m opens) vehicles (fewest m opens callouts))).code
  unfolding price_unless
  priced_code callouts vehicles = unless_code (λ (x : PriceAnswer). x.code) price_refused (λ c. refl) code _

module _ (n m : ℕ) (opens callouts : List ℕ) where
  pub first_code : (first_answer n m opens callouts).code ≡ or_else (table_code n m opens callouts) (first_from m opens).code
  unfolding first_answer
  first_code = plan-code (table_code n m opens callouts) (first_from m opens)

  pub next_code : (g : Plan) → (next_answer n m opens callouts g).code ≡ or_else (table_code n m opens callouts) (next_from m opens g.slots).code
  unfolding next_answer
  next_code g = plan-code (table_code n m opens callouts) (next_from m opens g.slots)

  pub fewest_code : (cap : ℕ) → (fewest_answer n m opens callouts cap).code ≡ or_else (table_code n m opens callouts) (fewest_from m opens callouts cap).code
  unfolding fewest_answer
  fewest_code cap = plan-code (table_code n m opens callouts) (fewest_from m opens callouts cap)

  pub cell-code : (i j : ℕ) → (cell_answer n m opens callouts i j).code ≡ table_code n m opens callouts
  unfolding cell_answer
  cell-code i j = plan-code (table_code n m opens callouts) _ ∙ or-none _

  pub untallied_count_code : (untallied_count n m opens callouts).code ≡ sized_code n m opens callouts
  unfolding untallied_count
  untallied_count_code = counted_code (sized_code n m opens callouts) m opens

  pub untallied_grade_code : (untallied_grade n m opens callouts).code
      ≡ or_else (sized_code n m opens callouts) (grade_by opens (count m opens) (rota_grade m opens)).code
  unfolding untallied_grade
  untallied_grade_code = graded_code (sized_code n m opens callouts) m opens

  pub untallied-price-code : (vehicles : ℕ) → (untallied_price n m opens callouts vehicles).code
      ≡ or_else (untallied_price_code n m opens callouts vehicles)
      (price_by opens (count m opens) (monthly_price (rota_grade m opens) vehicles (fewest m opens callouts))).code
  unfolding untallied_price
  untallied-price-code vehicles = priced_code (untallied_price_code n m opens callouts vehicles) m opens callouts vehicles

  module _ (words : ℕ) where
    pub count-code : (count_answer n m opens callouts words).code ≡ count_code n m opens callouts words
    unfolding count_answer
    count-code = counted_code (count_code n m opens callouts words) m opens

    pub grade-code : (grade_answer n m opens callouts words).code
        ≡ or_else (count_code n m opens callouts words) (grade_by opens (count m opens) (rota_grade m opens)).code
    unfolding grade_answer
    grade-code = graded_code (count_code n m opens callouts words) m opens

    pub price-code : (vehicles : ℕ) → (price_answer n m opens callouts vehicles words).code
        ≡ or_else (price_code n m opens callouts vehicles words)
        (price_by opens (count m opens) (monthly_price (rota_grade m opens) vehicles (fewest m opens callouts))).code
    unfolding price_answer
    price-code vehicles = priced_code (price_code n m opens callouts vehicles words) m opens callouts vehicles

    pub plan-at_code : (k : ℕ) → (plan_at_answer n m opens callouts k words).code ≡ plan_at_code n m opens callouts k words
    unfolding plan_at_answer
    plan-at_code k = plan-code (plan_at_code n m opens callouts k words) _ ∙ or-none _

    pub plan-number_code : (g : Plan) → (plan_number_answer n m opens callouts g words).code ≡ plan_number_code n m opens callouts g words
    unfolding plan_number_answer
    plan-number_code g =
        unless_code (λ (x : NumberAnswer). x.code) number_refused (λ c. refl) (plan_number_code n m opens callouts g words) _ ∙ or-none _

  pub write-code : (places : ℕ) → (write_answer n m opens callouts places).code ≡ write_code n m opens callouts places
  unfolding write_answer
  write-code places = unless_code (λ (x : WriteAnswer). x.code) write_refused (λ c. refl) (write_code n m opens callouts places) _ ∙ or-none _

module _ (e : Edition) (file : List ℕ) where
  pub read-code : (o k : ℕ) → (read_answer e file o k).code ≡ read_code e file o k
  unfolding read_answer
  read-code o k = unless_code (λ (x : ReadAnswer). x.code) read_refused (λ c. refl) (read_code e file o k) (record { code = 0; n = items_in file }) ∙ or-none _

  pub on-file_code : (places : ℕ) (call : ℕ → ℕ → List ℕ → List ℕ → PlanAnswer)
      → (on_file e file places call).code ≡ or_else (plan_file_code e file places) (call (items_in file) (slots_in e file) (opens_in file) (callouts_in file)).code
  unfolding on_file
  on-file_code places call = plan-code (plan_file_code e file places) (call (items_in file) (slots_in e file) (opens_in file) (callouts_in file))
