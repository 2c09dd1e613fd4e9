-- Refused, no such plan, or the walk to it. Assumes nothing.
use Rattle.std.proofs.Common.{arith}
use Rattle.rota.proofs.Tallies.{ready}
use Rattle.rota.proofs.NoTally.{few-rows}
use Rattle.rota.proofs.NumberCalls.{enough_words, ready_table, plan-at-refused, no_such_plan, plan-at_done}
use Rattle.rota.proofs.numbers.rota_plan_at.Goals as goal

pub returns-in-Err : goal.returns-in-Err
returns-in-Err c = plan-at-refused _ _ _ _ _ _ c.in-Err.ensures c.refused.ensures

pub count-requires : goal.count-requires
count-requires c = few-rows (ready c.in_default.ensures).0

pub returns-then-count-k : goal.returns-then-count-k
returns-then-count-k c =
    no_such_plan _ _ _ _ _ (ready c.in_default.ensures).0 (omega (arith, c.count.ensures, c.if-count-k.true))
    c.refused-then-count-k.ensures

pub tally_last-requires : goal.tally_last-requires
tally_last-requires c = let t = ready c.in_default.ensures in (few-rows t.0, enough_words t.0 t.1)

pub unrank-requires : goal.unrank-requires
unrank-requires c = (
  ready_table (ready c.in_default.ensures).0 _ c.tally_last.ensures,
  omega (arith, c.count.ensures, c.if-count-k.false),
)

pub returns : goal.returns
returns c =
    plan-at_done _ _ _ _ _ (ready c.in_default.ensures).0 (omega (arith, c.count.ensures, c.if-count-k.false))
    c.unrank.ensures c.given.ensures c.tally_last.ensures
