-- The test's refusal, or what the search found.
use Rattle.std.proofs.Common.{sym, ap, ◌∙◌, of_calls}
use Rattle.model.specs.Refusal.{code_of}
use Rattle.model.specs.PlanAnswers.{refused}
use Rattle.model.proofs.Refusals.{code-refused, answers_number, accepted-answer}
use Rattle.rota.proofs.before_count.planned.Goals as goal

pub returns-in-Err : goal.returns-in-Err
returns-in-Err g c =
    let e = sym (ap code_of c.in-Err.is) in
    let d = code-refused (Unit {0}) c.in-Err.refusal e in
    (refused 0, λ z. absurd (d.1 (d.0 ∙ z)), c.refused.ensures ∙ answers_number (Unit {0}) c.in-Err.refusal e _ _)

pub search-found-requires : goal.search-found-requires
unfolding code_of
search-found-requires g c = let h = c.requires (ap code_of c.in_default.is) in search of_calls

pub returns-then-found-ne0 : goal.returns-then-found-ne0
unfolding code_of
returns-then-found-ne0 g c =
    let z = ap code_of c.in_default.is in
    (c.search-found.result, λ k. (search of_calls, c.if-found-ne0.true), c.short.ensures ∙ accepted-answer _ z _ _)

pub returns : goal.returns
unfolding code_of
returns g c = (ap code_of c.in_default.is, c.if-found-ne0.false, search of_calls)
