-- What is known of a call that was made: its contract, over plain values. `EachFirst P` says that P holds of every call of
-- `rota_first_plan`: of n, the open words, the callout words and the answer. Lent buffers and the lister stand there as they were at
-- entry, and after the answer as they are at exit. Assumes nothing.
use Rattle.std.specs.Prelude.{◌≡◌, List, ℕ}
use base.Logic.{emp}
use borrow.Fn.Claims.{AllOf}
use borrow.Fn.Read.{ReadAt, r_last, no_know}
use borrow.Fn.World.{w₀}
use contract.Lifetimes.{Lfts}
use denote.Triple.Entry.{Args, Res}
use denote.Triple.Clauses.{AtExit}
use Rattle.model.specs.declared.Plan.{Plan}
use Rattle.model.specs.declared.PlanAnswer.{PlanAnswer}
use Rattle.model.specs.declared.Lister.{Lister}
use Rattle.model.specs.declared.CountAnswer.{CountAnswer}
use Rattle.model.specs.declared.NumberAnswer.{NumberAnswer}
use Rattle.model.specs.declared.GradeAnswer.{GradeAnswer}
use Rattle.model.specs.declared.PriceAnswer.{PriceAnswer}
use Rattle.model.specs.declared.ReadAnswer.{ReadAnswer}
use Rattle.model.specs.declared.WriteAnswer.{WriteAnswer}
use Rattle.rota.specs.contracts.plans.rota_first_plan as first
use Rattle.rota.proofs.plans.rota_first_plan.Reads as first_reads
use Rattle.rota.specs.contracts.plans.rota_next_plan as next
use Rattle.rota.proofs.plans.rota_next_plan.Reads as next_reads
use Rattle.rota.specs.contracts.plans.rota_fewest_callouts as fewest
use Rattle.rota.proofs.plans.rota_fewest_callouts.Reads as fewest_reads
use Rattle.rota.specs.contracts.plans.rota_cell_plan as cell
use Rattle.rota.proofs.plans.rota_cell_plan.Reads as cell_reads
use Rattle.rota.specs.contracts.lister.rota_list_plan as list
use Rattle.rota.specs.contracts.usable.rota_usable_slots as usable
use Rattle.rota.proofs.usable.rota_usable_slots.Reads as usable_reads
use Rattle.rota.specs.contracts.sheets.rota_plan_sheet as sheet
use Rattle.rota.proofs.sheets.rota_plan_sheet.Reads as sheet_reads
use Rattle.rota.specs.contracts.counting.rota_count_plans as count
use Rattle.rota.proofs.counting.rota_count_plans.Reads as count_reads
use Rattle.rota.specs.contracts.pricing.rota_grade as grade
use Rattle.rota.proofs.pricing.rota_grade.Reads as grade_reads
use Rattle.rota.specs.contracts.pricing.rota_monthly_price as price
use Rattle.rota.proofs.pricing.rota_monthly_price.Reads as price_reads
use Rattle.rota.specs.contracts.untallied.rota_count_plans_untallied as untallied-count
use Rattle.rota.proofs.untallied.rota_count_plans_untallied.Reads as untallied_count_reads
use Rattle.rota.specs.contracts.untallied.rota_grade_untallied as untallied-grade
use Rattle.rota.proofs.untallied.rota_grade_untallied.Reads as untallied_grade_reads
use Rattle.rota.specs.contracts.untallied.rota_monthly_price_untallied as untallied-price
use Rattle.rota.proofs.untallied.rota_monthly_price_untallied.Reads as untallied_price_reads
use Rattle.rota.specs.contracts.numbers.rota_plan_at as plan-at
use Rattle.rota.proofs.numbers.rota_plan_at.Reads as plan_at_reads
use Rattle.rota.specs.contracts.numbers.rota_plan_number as plan-number
use Rattle.rota.proofs.numbers.rota_plan_number.Reads as plan_number_reads
use Rattle.rota.specs.contracts.files.rota_read_file as read
use Rattle.rota.proofs.files.rota_read_file.Reads as read_reads
use Rattle.rota.specs.contracts.files.rota_write_file as write
use Rattle.rota.proofs.files.rota_write_file.Reads as write_reads
use Rattle.rota.specs.contracts.file_plans.rota_file_first_plan as file-first
use Rattle.rota.proofs.file_plans.rota_file_first_plan.Reads as file_first_reads
use Rattle.rota.specs.contracts.file_plans.rota_file_next_plan as file-next
use Rattle.rota.proofs.file_plans.rota_file_next_plan.Reads as file_next_reads
use Rattle.rota.specs.contracts.file_plans.rota_file_fewest_callouts as file-fewest
use Rattle.rota.proofs.file_plans.rota_file_fewest_callouts.Reads as file_fewest_reads

-- ---- plans

unfoldable pub EachFirst : (ℕ → List ℕ → List ℕ → PlanAnswer → Type 0) → Type 0
EachFirst P = (κs : Lfts 2) (a : Args first.signature κs) (r : Res first.signature κs) (s : AtExit first.ended κs) → first_reads.Learnt κs a r s
    → P a.0 a.1.0.now a.1.1.0.now r

unfoldable pub EachNext : (ℕ → List ℕ → List ℕ → Plan → PlanAnswer → Type 0) → Type 0
EachNext P = (κs : Lfts 2) (a : Args next.signature κs) (r : Res next.signature κs) (s : AtExit next.ended κs) → next_reads.Learnt κs a r s
    → P a.0 a.1.0.now a.1.1.0.now a.1.1.1.0 r

unfoldable pub EachFewest : (ℕ → List ℕ → List ℕ → ℕ → PlanAnswer → Type 0) → Type 0
EachFewest P = (κs : Lfts 2) (a : Args fewest.signature κs) (r : Res fewest.signature κs) (s : AtExit fewest.ended κs) → fewest_reads.Learnt κs a r s
    → P a.0 a.1.0.now a.1.1.0.now a.1.1.1.0 r

-- a cell is its item and its slot
unfoldable pub EachCell : (ℕ → List ℕ → List ℕ → ℕ → ℕ → PlanAnswer → Type 0) → Type 0
EachCell P = (κs : Lfts 2) (a : Args cell.signature κs) (r : Res cell.signature κs) (s : AtExit cell.ended κs) → cell_reads.Learnt κs a r s
    → P a.0 a.1.0.now a.1.1.0.now a.1.1.1.0 a.1.1.1.1.0 r

unfoldable pub EachSheet : (ℕ → List ℕ → List ℕ → Plan → List ℕ → ℕ → List ℕ → Type 0) → Type 0
EachSheet P = (κs : Lfts 3) (a : Args sheet.signature κs) (r : Res sheet.signature κs) (s : AtExit sheet.ended κs) → sheet_reads.Learnt κs a r s
    → P a.0 a.1.0.now a.1.1.0.now a.1.1.1.0 a.1.1.1.1.0.now r s.1.1.1.1.0.now

-- ---- the lister. Its call takes a `&mut` record, and what is known of it is read off its clauses

abbrev list_says : (κs : Lfts 3) (a : Args list.signature κs) (r : Res list.signature κs) (s : AtExit list.ended κs)
    → ReadAt w₀ (λ w. emp w.𝓤) no_know ((list.clauses w₀.𝓛 w₀.𝓜.mem w₀.𝓡.run κs a).ensures tt r s)
list_says κs a r s = r_last _

-- a call of `rota_list_plan` that was made
pub record ListCall : Type 0 where
  pub lifetimes : Lfts 3
  pub args : Args list.signature lifetimes
  pub answer : Res list.signature lifetimes
  pub exit : AtExit list.ended lifetimes
  pub learnt : AllOf (list_says lifetimes args answer exit).tells

unfoldable pub EachList : (Lister → ℕ → List ℕ → List ℕ → PlanAnswer → Lister → Type 0) → Type 0
EachList P = (c : ListCall) → P c.args.0.now c.args.1.0 c.args.1.1.0.now c.args.1.1.1.0.now c.answer c.exit.0.now

-- ---- usable table, count, grade and price

unfoldable pub EachUsable : (ℕ → List ℕ → List ℕ → List ℕ → ℕ → List ℕ → Type 0) → Type 0
EachUsable P = (κs : Lfts 3) (a : Args usable.signature κs) (r : Res usable.signature κs) (s : AtExit usable.ended κs) → usable_reads.Learnt κs a r s
    → P a.0 a.1.0.now a.1.1.0.now a.1.1.1.0.now r s.1.1.1.0.now

unfoldable pub EachCount : (ℕ → List ℕ → List ℕ → List ℕ → CountAnswer → List ℕ → Type 0) → Type 0
EachCount P = (κs : Lfts 3) (a : Args count.signature κs) (r : Res count.signature κs) (s : AtExit count.ended κs) → count_reads.Learnt κs a r s
    → P a.0 a.1.0.now a.1.1.0.now a.1.1.1.0.now r s.1.1.1.0.now

unfoldable pub EachGrade : (ℕ → List ℕ → List ℕ → List ℕ → GradeAnswer → List ℕ → Type 0) → Type 0
EachGrade P = (κs : Lfts 3) (a : Args grade.signature κs) (r : Res grade.signature κs) (s : AtExit grade.ended κs) → grade_reads.Learnt κs a r s
    → P a.0 a.1.0.now a.1.1.0.now a.1.1.1.0.now r s.1.1.1.0.now

unfoldable pub EachPrice : (ℕ → List ℕ → List ℕ → ℕ → List ℕ → PriceAnswer → List ℕ → Type 0) → Type 0
EachPrice P = (κs : Lfts 3) (a : Args price.signature κs) (r : Res price.signature κs) (s : AtExit price.ended κs) → price_reads.Learnt κs a r s
    → P a.0 a.1.0.now a.1.1.0.now a.1.1.1.0 a.1.1.1.1.0.now r s.1.1.1.1.0.now

-- ---- count, grade and price without a tally

unfoldable pub EachUntalliedCount : (ℕ → List ℕ → List ℕ → CountAnswer → Type 0) → Type 0
EachUntalliedCount P = (κs : Lfts 2) (a : Args untallied-count.signature κs) (r : Res untallied-count.signature κs) (s : AtExit untallied-count.ended κs)
    → untallied_count_reads.Learnt κs a r s → P a.0 a.1.0.now a.1.1.0.now r

unfoldable pub EachUntalliedGrade : (ℕ → List ℕ → List ℕ → GradeAnswer → Type 0) → Type 0
EachUntalliedGrade P = (κs : Lfts 2) (a : Args untallied-grade.signature κs) (r : Res untallied-grade.signature κs) (s : AtExit untallied-grade.ended κs)
    → untallied_grade_reads.Learnt κs a r s → P a.0 a.1.0.now a.1.1.0.now r

unfoldable pub EachUntalliedPrice : (ℕ → List ℕ → List ℕ → ℕ → PriceAnswer → Type 0) → Type 0
EachUntalliedPrice P = (κs : Lfts 2) (a : Args untallied-price.signature κs) (r : Res untallied-price.signature κs) (s : AtExit untallied-price.ended κs)
    → untallied_price_reads.Learnt κs a r s → P a.0 a.1.0.now a.1.1.0.now a.1.1.1.0 r

-- ---- plans by their numbers

unfoldable pub EachPlanAt : (ℕ → List ℕ → List ℕ → ℕ → List ℕ → PlanAnswer → List ℕ → Type 0) → Type 0
EachPlanAt P = (κs : Lfts 3) (a : Args plan-at.signature κs) (r : Res plan-at.signature κs) (s : AtExit plan-at.ended κs) → plan_at_reads.Learnt κs a r s
    → P a.0 a.1.0.now a.1.1.0.now a.1.1.1.0 a.1.1.1.1.0.now r s.1.1.1.1.0.now

unfoldable pub EachPlanNumber : (ℕ → List ℕ → List ℕ → Plan → List ℕ → NumberAnswer → List ℕ → Type 0) → Type 0
EachPlanNumber P = (κs : Lfts 3) (a : Args plan-number.signature κs) (r : Res plan-number.signature κs) (s : AtExit plan-number.ended κs)
    → plan_number_reads.Learnt κs a r s
    → P a.0 a.1.0.now a.1.1.0.now a.1.1.1.0 a.1.1.1.1.0.now r s.1.1.1.1.0.now

-- ---- files

unfoldable pub EachRead : (List ℕ → List ℕ → List ℕ → ReadAnswer → List ℕ → List ℕ → Type 0) → Type 0
EachRead P = (κs : Lfts 3) (a : Args read.signature κs) (r : Res read.signature κs) (s : AtExit read.ended κs) → read_reads.Learnt κs a r s
    → P a.0.now a.1.0.now a.1.1.0.now r s.1.0.now s.1.1.0.now

unfoldable pub EachWrite : (ℕ → List ℕ → List ℕ → List ℕ → WriteAnswer → List ℕ → Type 0) → Type 0
EachWrite P = (κs : Lfts 3) (a : Args write.signature κs) (r : Res write.signature κs) (s : AtExit write.ended κs) → write_reads.Learnt κs a r s
    → P a.0 a.1.0.now a.1.1.0.now a.1.1.1.0.now r s.1.1.1.0.now

unfoldable pub EachFileFirst : (List ℕ → List ℕ → ℕ → List ℕ → Type 0) → Type 0
EachFileFirst P = (κs : Lfts 2) (a : Args file-first.signature κs) (r : Res file-first.signature κs) (s : AtExit file-first.ended κs)
    → file_first_reads.Learnt κs a r s → P a.0.now a.1.0.now r s.1.0.now

unfoldable pub EachFileNext : (List ℕ → List ℕ → ℕ → List ℕ → Type 0) → Type 0
EachFileNext P = (κs : Lfts 2) (a : Args file-next.signature κs) (r : Res file-next.signature κs) (s : AtExit file-next.ended κs)
    → file_next_reads.Learnt κs a r s → P a.0.now a.1.0.now r s.1.0.now

unfoldable pub EachFileFewest : (List ℕ → List ℕ → ℕ → ℕ → List ℕ → Type 0) → Type 0
EachFileFewest P = (κs : Lfts 2) (a : Args file-fewest.signature κs) (r : Res file-fewest.signature κs) (s : AtExit file-fewest.ended κs)
    → file_fewest_reads.Learnt κs a r s → P a.0.now a.1.0.now a.1.1.0 r s.1.0.now

-- ---- what the calls ask of their callers: whatever it is given, each may be made

pub record AskNothing : Type 2 where
  pub first-plan : (κs : Lfts 2) (a : Args first.signature κs) → first_reads.Asked κs a
  pub next-plan : (κs : Lfts 2) (a : Args next.signature κs) → next_reads.Asked κs a
  pub fewest-callouts : (κs : Lfts 2) (a : Args fewest.signature κs) → fewest_reads.Asked κs a
  pub cell-plan : (κs : Lfts 2) (a : Args cell.signature κs) → cell_reads.Asked κs a
  pub plan-sheet : (κs : Lfts 3) (a : Args sheet.signature κs) → sheet_reads.Asked κs a
  pub usable-slots : (κs : Lfts 3) (a : Args usable.signature κs) → usable_reads.Asked κs a
  pub count-plans : (κs : Lfts 3) (a : Args count.signature κs) → count_reads.Asked κs a
  pub grade : (κs : Lfts 3) (a : Args grade.signature κs) → grade_reads.Asked κs a
  pub monthly-price : (κs : Lfts 3) (a : Args price.signature κs) → price_reads.Asked κs a
  pub count-plans_untallied : (κs : Lfts 2) (a : Args untallied-count.signature κs) → untallied_count_reads.Asked κs a
  pub grade_untallied : (κs : Lfts 2) (a : Args untallied-grade.signature κs) → untallied_grade_reads.Asked κs a
  pub monthly_price_untallied : (κs : Lfts 2) (a : Args untallied-price.signature κs) → untallied_price_reads.Asked κs a
  pub plan-at : (κs : Lfts 3) (a : Args plan-at.signature κs) → plan_at_reads.Asked κs a
  pub plan-number : (κs : Lfts 3) (a : Args plan-number.signature κs) → plan_number_reads.Asked κs a
  pub read_file : (κs : Lfts 3) (a : Args read.signature κs) → read_reads.Asked κs a
  pub write-file : (κs : Lfts 3) (a : Args write.signature κs) → write_reads.Asked κs a
  pub file-first-plan : (κs : Lfts 2) (a : Args file-first.signature κs) → file_first_reads.Asked κs a
  pub file-next-plan : (κs : Lfts 2) (a : Args file-next.signature κs) → file_next_reads.Asked κs a
  pub file-fewest-callouts : (κs : Lfts 2) (a : Args file-fewest.signature κs) → file_fewest_reads.Asked κs a
  pub list_plan : (κs : Lfts 3) (a : Args list.signature κs) → (list.clauses w₀.𝓛 w₀.𝓜.mem w₀.𝓡.run κs a).requires tt ≡ emp w₀.𝓤
