-- The call that the flag says. Assumes nothing.
use Rattle.model.specs.Lister.{lister_answer}
use Rattle.rota.proofs.lister.answer.Goals as goal

pub returns-then-lister : goal.returns-then-lister
unfolding lister_answer
returns-then-lister c = rw c.if-lister.true c.rota_next_plan.ensures

pub returns-else-lister : goal.returns-else-lister
unfolding lister_answer
returns-else-lister c = rw c.if-lister.false c.rota_first_plan.ensures
