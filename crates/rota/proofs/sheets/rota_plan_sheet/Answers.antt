-- Refused by the tables, for room or for the plan, or the sheet is written. Assumes nothing.
use Rattle.std.proofs.Common.{length-take, arith}
use Rattle.model.proofs.Accepted.{tables-from}
use Rattle.rota.proofs.TableCalls.{passes, few-items}
use Rattle.rota.proofs.SheetCalls.{fits-callouts, sheet-refused, sheet-short, sheet_no_plan, sheet_done}
use Rattle.rota.proofs.sheets.rota_plan_sheet.Goals as goal

pub returns-in-Err : goal.returns-in-Err
returns-in-Err c =
    sheet-refused _ _ _ _ _ _ _ c.in-Err.ensures c.number.ensures

pub overflow_add-size : goal.overflow_add-size
overflow_add-size c = omega (arith, (passes c.in_default.ensures).slots)

pub overflow_mul-size : goal.overflow_mul-size
overflow_mul-size c = omega (arith, (passes c.in_default.ensures).slots)

pub returns-then-page-size : goal.returns-then-page-size
returns-then-page-size c =
    let p = passes c.in_default.ensures in
    sheet-short _ _ _ _ _ _ p c.if-page-size.true c.number-then-page-size.ensures

pub is_plan-requires : goal.is_plan-requires
is_plan-requires c = few-items (passes c.in_default.ensures)

pub returns-then-not-is_plan : goal.returns-then-not-is_plan
returns-then-not-is_plan c =
    let p = passes c.in_default.ensures in
    sheet_no_plan _ _ _ _ _ _ p c.if-page-size.false (c.is_plan.ensures.1 c.if-not-is_plan.true)
    c.number-then-not-is_plan.ensures

pub write_sheet-requires : goal.write_sheet-requires
write_sheet-requires c =
    let p = passes c.in_default.ensures in
    let t = tables-from _ _ _ _ p.code in
    let f = fits-callouts p _ (c.is_plan.ensures.0 c.if-not-is_plan.false) in
    (f.items, f.slots, simp length-take (omega (arith, t.callout-words, c.if-page-size.false)))

pub returns : goal.returns
returns c =
    let p = passes c.in_default.ensures in
    sheet_done _ _ _ _ _ _ p c.if-page-size.false (c.is_plan.ensures.0 c.if-not-is_plan.false)
    c.write_sheet.ensures
