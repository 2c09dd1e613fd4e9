-- A refusal keeps the lister, a success stores the plan. Assumes nothing.
use Rattle.rota.proofs.Stepping.{step_refused, step_done}
use Rattle.rota.proofs.lister.step.Goals as goal

pub returns-then-a-ne0 : goal.returns-then-a-ne0
returns-then-a-ne0 c = step_refused _ _ _ _ _ _ c.answer-a.ensures c.if-a-ne0.true

pub returns : goal.returns
returns c = step_done _ _ _ _ _ _ c.answer-a.ensures c.if-a-ne0.false
