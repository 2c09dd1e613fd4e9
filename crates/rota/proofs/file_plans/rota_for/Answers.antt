-- The file's refusal, then that for room. Assumes nothing.
use Rattle.std.proofs.Common.{arith}
use Rattle.std.proofs.lemmas.Result.{err_from_is_err_and}
use Rattle.model.specs.Refusal.{code_of, number}
use Rattle.model.specs.FileAnswers.{plan_file_code}
use Rattle.model.proofs.Refusals.{stops, numbered}
use Rattle.rota.proofs.OnFiles.{plan_short, plan_wide}
use Rattle.rota.proofs.file_plans.rota_for.Goals as goal

pub returns-in_err-rota-clause-code : goal.returns-in_err-rota-clause-code
unfolding code_of plan_file_code
returns-in_err-rota-clause-code c =
    let p = err_from_is_err_and c.from_residual.result c.from_residual.ensures.1 in
    rw (p.1, p.2) (stops _ _ _ c.in_err-rota.ensures.code (λ z. omega (arith, numbered c.in_err-rota.field-0.0, z)))

pub returns-then-places-lt64-clause-code : goal.returns-then-places-lt64-clause-code
unfolding code_of number
returns-then-places-lt64-clause-code c = plan_short _ _ _ c.in_ok-rota.ensures.code c.if-places-lt64.true

pub returns-clause-code : goal.returns-clause-code
unfolding code_of
returns-clause-code c = plan_wide _ _ _ c.in_ok-rota.ensures.code c.if-places-lt64.false
