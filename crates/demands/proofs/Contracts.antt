-- What holds by a call's contract holds of every call. Each contract is used here and nowhere else. Assumes nothing.
use mathlib.Core.Path.{◌≡◌, refl, sym, subst⁻¹, subst₂}
use mathlib.Core.List.{List}
use Prim.Native.Nat.{ℕ}
use lib.ListN.{length, take}
use Rattle.model.specs.declared.Edition.{Edition}
use Rattle.model.specs.declared.Plan.{Plan}
use Rattle.model.specs.declared.PlanAnswer.{PlanAnswer}
use Rattle.model.specs.declared.Lister.{Lister}
use Rattle.model.specs.declared.CountAnswer.{CountAnswer}
use Rattle.model.specs.declared.NumberAnswer.{NumberAnswer}
use Rattle.model.specs.declared.GradeAnswer.{GradeAnswer}
use Rattle.model.specs.declared.PriceAnswer.{PriceAnswer}
use Rattle.model.specs.declared.ReadAnswer.{ReadAnswer}
use Rattle.model.specs.declared.WriteAnswer.{WriteAnswer}
use Rattle.model.specs.PlanAnswers.{first_answer, next_answer, fewest_answer, cell_answer}
use Rattle.model.specs.Lister.{lister_answer, lister_after}
use Rattle.model.specs.SheetAnswers.{sheet_code, sheet_after}
use Rattle.model.specs.UsableAnswers.{usable_code, usable_after}
use Rattle.model.specs.CountAnswers.{untallied_count, count_answer, count_tally}
use Rattle.model.specs.PriceAnswers.{untallied_grade, grade_answer, grade_tally, untallied_price, price_answer, price_tally}
use Rattle.model.specs.NumberAnswers.{plan_at_answer, plan_at_tally, plan_number_answer, plan_number_tally}
use Rattle.model.specs.FileAnswers.{read_answer, read_opens, read_callouts, write_answer, write_file, file_first, file_next, file_fewest, buffer_after}
use Rattle.demands.specs.Calls.{ListCall, EachFirst, EachNext, EachFewest, EachCell, EachSheet, EachList, EachUsable, EachCount, EachGrade, EachPrice}
use Rattle.demands.specs.Calls.{EachUntalliedCount, EachUntalliedGrade, EachUntalliedPrice, EachRead, EachWrite, EachFileFirst, EachFileNext}
use Rattle.demands.specs.Calls.{EachFileFewest, EachPlanAt, EachPlanNumber, AskNothing}

pub first_each : (Q : ℕ → List ℕ → List ℕ → PlanAnswer → Type 0)
    → ((n : ℕ) (opens callouts : List ℕ) → Q n opens callouts (first_answer n n opens callouts)) → EachFirst Q
unfolding EachFirst
first_each Q f κs a r s l = subst⁻¹ (Q _ _ _) l (f _ _ _)

pub next_each : (Q : ℕ → List ℕ → List ℕ → Plan → PlanAnswer → Type 0)
    → ((n : ℕ) (opens callouts : List ℕ) (g : Plan) → Q n opens callouts g (next_answer n n opens callouts g)) → EachNext Q
unfolding EachNext
next_each Q f κs a r s l = subst⁻¹ (Q _ _ _ _) l (f _ _ _ _)

pub fewest_each : (Q : ℕ → List ℕ → List ℕ → ℕ → PlanAnswer → Type 0)
    → ((n : ℕ) (opens callouts : List ℕ) (cap : ℕ) → Q n opens callouts cap (fewest_answer n n opens callouts cap)) → EachFewest Q
unfolding EachFewest
fewest_each Q f κs a r s l = subst⁻¹ (Q _ _ _ _) l (f _ _ _ _)

pub cell_each : (Q : ℕ → List ℕ → List ℕ → ℕ → ℕ → PlanAnswer → Type 0)
    → ((n : ℕ) (opens callouts : List ℕ) (i j : ℕ) → Q n opens callouts i j (cell_answer n n opens callouts i j)) → EachCell Q
unfolding EachCell
cell_each Q f κs a r s l = subst⁻¹ (Q _ _ _ _ _) l (f _ _ _ _ _)

pub sheet_each : (Q : ℕ → List ℕ → List ℕ → Plan → List ℕ → ℕ → List ℕ → Type 0)
    → ((n : ℕ) (opens callouts : List ℕ) (g : Plan) (old : List ℕ)
    → Q n opens callouts g old (sheet_code n n opens callouts g (length old)) (sheet_after n n opens callouts g old)) → EachSheet Q
unfolding EachSheet
sheet_each Q f κs a r s l = subst₂ (Q _ _ _ _ _) (sym l.0) (sym l.1) (f _ _ _ _ _)

pub list_met : (c : ListCall)
    → let n = c.args.1.0 in let e = c.args.0.now in let opens = c.args.1.1.0.now in let callouts = c.args.1.1.1.0.now in
    (c.answer ≡ lister_answer e n n opens callouts) × (c.exit.0.now ≡ lister_after e n n opens callouts)
list_met c = c.learnt

pub list_each : (Q : Lister → ℕ → List ℕ → List ℕ → PlanAnswer → Lister → Type 0)
    → ((e : Lister) (n : ℕ) (opens callouts : List ℕ) → Q e n opens callouts (lister_answer e n n opens callouts) (lister_after e n n opens callouts))
    → EachList Q
unfolding EachList
list_each Q f c = subst₂ (Q _ _ _ _) (sym (list_met c).0) (sym (list_met c).1) (f _ _ _ _)

pub usable_each : (Q : ℕ → List ℕ → List ℕ → List ℕ → ℕ → List ℕ → Type 0)
    → ((n : ℕ) (opens callouts old : List ℕ)
    → Q n opens callouts old (usable_code n n opens callouts (length old)) (usable_after n n opens callouts old)) → EachUsable Q
unfolding EachUsable
usable_each Q f κs a r s l = subst₂ (Q _ _ _ _) (sym l.0) (sym l.1) (f _ _ _ _)

pub count_each : (Q : ℕ → List ℕ → List ℕ → List ℕ → CountAnswer → List ℕ → Type 0)
    → ((n : ℕ) (opens callouts tally : List ℕ)
    → Q n opens callouts tally (count_answer n n opens callouts (length tally)) (count_tally n n opens callouts tally)) → EachCount Q
unfolding EachCount
count_each Q f κs a r s l = subst₂ (Q _ _ _ _) (sym l.0) (sym l.1) (f _ _ _ _)

pub grade_each : (Q : ℕ → List ℕ → List ℕ → List ℕ → GradeAnswer → List ℕ → Type 0)
    → ((n : ℕ) (opens callouts tally : List ℕ)
    → Q n opens callouts tally (grade_answer n n opens callouts (length tally)) (grade_tally n n opens callouts tally)) → EachGrade Q
unfolding EachGrade
grade_each Q f κs a r s l = subst₂ (Q _ _ _ _) (sym l.0) (sym l.1) (f _ _ _ _)

pub price_each : (Q : ℕ → List ℕ → List ℕ → ℕ → List ℕ → PriceAnswer → List ℕ → Type 0)
    → ((n : ℕ) (opens callouts : List ℕ) (vehicles : ℕ) (tally : List ℕ)
    → Q n opens callouts vehicles tally (price_answer n n opens callouts vehicles (length tally)) (price_tally n n opens callouts vehicles tally)) → EachPrice Q
unfolding EachPrice
price_each Q f κs a r s l = subst₂ (Q _ _ _ _ _) (sym l.0) (sym l.1) (f _ _ _ _ _)

pub untallied_count_each : (Q : ℕ → List ℕ → List ℕ → CountAnswer → Type 0)
    → ((n : ℕ) (opens callouts : List ℕ) → Q n opens callouts (untallied_count n n opens callouts)) → EachUntalliedCount Q
unfolding EachUntalliedCount
untallied_count_each Q f κs a r s l = subst⁻¹ (Q _ _ _) l (f _ _ _)

pub untallied_grade_each : (Q : ℕ → List ℕ → List ℕ → GradeAnswer → Type 0)
    → ((n : ℕ) (opens callouts : List ℕ) → Q n opens callouts (untallied_grade n n opens callouts)) → EachUntalliedGrade Q
unfolding EachUntalliedGrade
untallied_grade_each Q f κs a r s l = subst⁻¹ (Q _ _ _) l (f _ _ _)

pub untallied_price_each : (Q : ℕ → List ℕ → List ℕ → ℕ → PriceAnswer → Type 0)
    → ((n : ℕ) (opens callouts : List ℕ) (vehicles : ℕ) → Q n opens callouts vehicles (untallied_price n n opens callouts vehicles)) → EachUntalliedPrice Q
unfolding EachUntalliedPrice
untallied_price_each Q f κs a r s l = subst⁻¹ (Q _ _ _ _) l (f _ _ _ _)

pub plan-at_each : (Q : ℕ → List ℕ → List ℕ → ℕ → List ℕ → PlanAnswer → List ℕ → Type 0)
    → ((n : ℕ) (opens callouts : List ℕ) (k : ℕ) (tally : List ℕ)
    → Q n opens callouts k tally (plan_at_answer n n opens callouts k (length tally)) (plan_at_tally n n opens callouts k tally)) → EachPlanAt Q
unfolding EachPlanAt
plan-at_each Q f κs a r s l = subst₂ (Q _ _ _ _ _) (sym l.0) (sym l.1) (f _ _ _ _ _)

pub plan-number_each : (Q : ℕ → List ℕ → List ℕ → Plan → List ℕ → NumberAnswer → List ℕ → Type 0)
    → ((n : ℕ) (opens callouts : List ℕ) (g : Plan) (tally : List ℕ)
    → Q n opens callouts g tally (plan_number_answer n n opens callouts g (length tally)) (plan_number_tally n n opens callouts g tally)) → EachPlanNumber Q
unfolding EachPlanNumber
plan-number_each Q f κs a r s l = subst₂ (Q _ _ _ _ _) (sym l.0) (sym l.1) (f _ _ _ _ _)

pub read_each : {Q : List ℕ → List ℕ → List ℕ → ReadAnswer → List ℕ → List ℕ → Type 0}
    → ((file o k : List ℕ) (r : ReadAnswer) (o' k' : List ℕ) → r ≡ read_answer Edition.One file (length o) (length k) → o' ≡ read_opens Edition.One file o k
    → k' ≡ read_callouts Edition.One file o k → Q file o k r o' k') → EachRead Q
unfolding EachRead
read_each f κs a r s l = f a.0.now a.1.0.now a.1.1.0.now r s.1.0.now s.1.1.0.now l.0 l.1.0 l.1.1

pub write_each : {Q : ℕ → List ℕ → List ℕ → List ℕ → WriteAnswer → List ℕ → Type 0}
    → ((n : ℕ) (opens callouts old : List ℕ) (r : WriteAnswer) (new : List ℕ) → r ≡ write_answer n n opens callouts (length old)
    → new ≡ write_file Edition.One n n opens callouts old → Q n opens callouts old r new) → EachWrite Q
unfolding EachWrite
write_each f κs a r s l = f a.0 a.1.0.now a.1.1.0.now a.1.1.1.0.now r s.1.1.1.0.now l.0 l.1

pub file-first_each : {Q : List ℕ → List ℕ → ℕ → List ℕ → Type 0}
    → ((file old : List ℕ) (r : ℕ) (new : List ℕ) → r ≡ (file_first Edition.One file (length old)).code
    → new ≡ buffer_after (file_first Edition.One file (length old)) old → Q file old r new) → EachFileFirst Q
unfolding EachFileFirst
file-first_each f κs a r s l = f a.0.now a.1.0.now r s.1.0.now l.0 l.1

pub file-next_each : {Q : List ℕ → List ℕ → ℕ → List ℕ → Type 0}
    → ((file old : List ℕ) (r : ℕ) (new : List ℕ) → r ≡ (file_next Edition.One file (length old) (record { slots = take 64 old })).code
    → new ≡ buffer_after (file_next Edition.One file (length old) (record { slots = take 64 old })) old → Q file old r new) → EachFileNext Q
unfolding EachFileNext
file-next_each f κs a r s l = f a.0.now a.1.0.now r s.1.0.now l.0 l.1

pub file-fewest_each : {Q : List ℕ → List ℕ → ℕ → ℕ → List ℕ → Type 0}
    → ((file old : List ℕ) (cap r : ℕ) (new : List ℕ) → r ≡ (file_fewest Edition.One file (length old) cap).code
    → new ≡ buffer_after (file_fewest Edition.One file (length old) cap) old → Q file old cap r new) → EachFileFewest Q
unfolding EachFileFewest
file-fewest_each f κs a r s l = f a.0.now a.1.0.now a.1.1.0 r s.1.0.now l.0 l.1

-- by fields: each uses one contract
pub ask_nothing : AskNothing
ask_nothing =
    record {
      first-plan = λ κs a. tt;
      next-plan = λ κs a. tt;
      fewest-callouts = λ κs a. tt;
      cell-plan = λ κs a. tt;
      plan-sheet = λ κs a. tt;
      usable-slots = λ κs a. tt;
      count-plans = λ κs a. tt;
      grade = λ κs a. tt;
      monthly-price = λ κs a. tt;
      count-plans_untallied = λ κs a. tt;
      grade_untallied = λ κs a. tt;
      monthly_price_untallied = λ κs a. tt;
      plan-at = λ κs a. tt;
      plan-number = λ κs a. tt;
      read_file = λ κs a. tt;
      write-file = λ κs a. tt;
      file-first-plan = λ κs a. tt;
      file-next-plan = λ κs a. tt;
      file-fewest-callouts = λ κs a. tt;
      list_plan = λ κs a. refl;
    }
