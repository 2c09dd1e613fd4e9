-- Refused, no plan, or the walk along it. Assumes nothing.
use Rattle.rota.proofs.TableCalls.{few-items}
use Rattle.rota.proofs.Tallies.{ready}
use Rattle.rota.proofs.NoTally.{few-rows}
use Rattle.rota.proofs.NumberCalls.{enough_words, ready_table, square_table, plan-number-refused, not_a_plan, plan-number_done}
use Rattle.rota.proofs.numbers.rota_plan_number.Goals as goal

pub returns-in-Err : goal.returns-in-Err
returns-in-Err c = plan-number-refused _ _ _ _ _ _ c.in-Err.ensures c.refused.ensures

pub is_plan-requires : goal.is_plan-requires
is_plan-requires c = few-items (ready c.in_default.ensures).0.passed

pub returns-then-not-is_plan : goal.returns-then-not-is_plan
returns-then-not-is_plan c =
    not_a_plan _ _ _ _ _ (ready c.in_default.ensures).0 (c.is_plan.ensures.1 c.if-not-is_plan.true)
    c.refused-then-not-is_plan.ensures

pub tally_last-requires : goal.tally_last-requires
tally_last-requires c = let t = ready c.in_default.ensures in (few-rows t.0, enough_words t.0 t.1)

pub rank-requires : goal.rank-requires
rank-requires c =
    let able = (ready c.in_default.ensures).0 in
    (ready_table able _ c.tally_last.ensures, c.is_plan.ensures.0 c.if-not-is_plan.false, square_table able)

pub returns : goal.returns
returns c =
    plan-number_done _ _ _ _ _ (ready c.in_default.ensures).0 (c.is_plan.ensures.0 c.if-not-is_plan.false)
    c.rank.ensures c.given.ensures c.tally_last.ensures
