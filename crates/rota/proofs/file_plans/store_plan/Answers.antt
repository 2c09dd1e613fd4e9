-- A refusal keeps the buffer, a success copies the plan. Assumes nothing.
use Rattle.std.proofs.Common.{◌∙◌, refl, ap, length, length-take, arith}
use Rattle.model.proofs.Refusals.{nothing_written}
use Rattle.rota.proofs.OnFiles.{plan-stored}
use Rattle.rota.proofs.file_plans.store_plan.Goals as goal
use Rattle.rota.proofs.file_plans.store_plan.Goals.{then-a-eq0, else-a-eq0}

pub returns-clause-buffer : goal.returns-clause-buffer
returns-clause-buffer c =
    let a = c.args.a.now in
    elim c.if-a-eq0.branch [
      | then-a-eq0 w ↦ let s = w.copy_from_slice.ensures in w.buffer-is ∙ plan-stored a.code a.plan.slots c.args.buffer.now _ w.if-a-eq0.true s.after
          (omega (arith, ap length s.after, s.len, length-take 64 c.args.buffer.now))
      | else-a-eq0 w ↦ w.buffer-is ∙ nothing_written a.code a.code w.if-a-eq0.false refl _ _
    ]
