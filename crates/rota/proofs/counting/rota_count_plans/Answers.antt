-- Refused, or counted. Assumes nothing.
use Rattle.model.proofs.Refusals.{code_passed}
use Rattle.rota.proofs.Tallies.{ready, count-refused, count_done}
use Rattle.rota.proofs.counting.rota_count_plans.Goals as goal

pub returns-in-Err : goal.returns-in-Err
returns-in-Err c = count-refused _ _ _ _ _ _ c.in-Err.ensures c.refused.ensures

pub count_subsets-requires : goal.count_subsets-requires
count_subsets-requires c = let t = ready c.in_default.ensures in (t.0.few, t.1)

pub returns : goal.returns
returns c =
    count_done _ _ _ _ _ (code_passed _ c.in_default.ensures) c.count_subsets.ensures.answer c.given.ensures c.count_subsets.ensures.table
