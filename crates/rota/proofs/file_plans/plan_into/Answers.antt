-- Refused by the file or for room, or the search's answer is stored. Assumes nothing.
use Rattle.std.proofs.Common.{◌∙◌, refl, sym, arith}
use Rattle.model.specs.Refusal.{code_of}
use Rattle.model.proofs.Refusals.{numbered}
use Rattle.rota.proofs.OnFiles.{room_for_plan}
use Rattle.rota.proofs.file_plans.plan_into.Goals as goal

pub search-requires : goal.search-requires
unfolding code_of
search-requires g c = c.requires _ _ (sym c.in-Ok.ensures.code) c.in-Ok.ensures.rota refl

pub store_plan-requires : goal.store_plan-requires
unfolding code_of
store_plan-requires g c = room_for_plan _ _ _ (sym c.in-Ok.ensures.code)

pub returns-in-Ok-clause-refused : goal.returns-in-Ok-clause-refused
unfolding code_of
returns-in-Ok-clause-refused g c = λ d. absurd (d (sym c.in-Ok.ensures.code))

pub returns-in-Err-clause-refused : goal.returns-in-Err-clause-refused
unfolding code_of
returns-in-Err-clause-refused g c = λ d. (c.number.ensures ∙ c.in-Err.ensures.code, refl)

pub returns-in-Err-clause-answered : goal.returns-in-Err-clause-answered
unfolding code_of
returns-in-Err-clause-answered g c = λ z. absurd (omega (arith, numbered c.in-Err.refusal, c.in-Err.ensures.code ∙ z))
