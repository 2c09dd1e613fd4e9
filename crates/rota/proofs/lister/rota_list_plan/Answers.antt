-- The step's answer, and its lister. Assumes nothing.
use Rattle.std.proofs.Common.{ap}
use Rattle.rota.specs.declared.lister.Stepped.{Stepped}
use Rattle.rota.specs.Step.{step_of}
use Rattle.rota.proofs.lister.rota_list_plan.Goals as goal

pub returns : goal.returns
unfolding step_of
returns c = (ap (λ (s : Stepped). s.answer) c.step-s.ensures, ap (λ (s : Stepped). s.lister) c.step-s.ensures)
