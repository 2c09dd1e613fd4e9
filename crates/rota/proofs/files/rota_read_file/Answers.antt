-- What was read, or its refusal. Assumes nothing.
use Rattle.std.proofs.Common.{ℕ, ◌∙◌, sym, ap}
use Rattle.model.specs.declared.ReadAnswer.{ReadAnswer}
use Rattle.model.specs.Refusal.{code_of, written}
use Rattle.model.specs.File.{opens_in, callouts_in}
use Rattle.model.specs.FileAnswers.{read_refused, read_answer, read_opens, read_callouts}
use Rattle.model.proofs.Refusals.{answers_number, accepted-answer}
use Rattle.rota.proofs.files.rota_read_file.Goals as goal

pub returns-in-Ok-clause-answer : goal.returns-in-Ok-clause-answer
unfolding code_of read_answer
returns-in-Ok-clause-answer c =
    let whole : ℕ → ReadAnswer = λ k. record { code = 0; n = k } in
    c.given.ensures ∙ ap whole c.in-Ok.ensures.n ∙ accepted-answer _ (sym c.in-Ok.ensures.code) read_refused _

pub returns-in-Ok-clause-opens : goal.returns-in-Ok-clause-opens
unfolding read_opens
returns-in-Ok-clause-opens c = c.in-Ok.ensures.opens ∙ ap (λ k. written k (opens_in c.args.file.now) c.args.opens.now) c.in-Ok.ensures.code

pub returns-in-Ok-clause-callouts : goal.returns-in-Ok-clause-callouts
unfolding read_callouts
returns-in-Ok-clause-callouts c =
    c.in-Ok.ensures.callouts ∙ ap (λ k. written k (callouts_in c.args.file.now) c.args.callouts.now) c.in-Ok.ensures.code

pub returns-in-Err-clause-answer : goal.returns-in-Err-clause-answer
unfolding read_answer
returns-in-Err-clause-answer c = c.refused.ensures ∙ answers_number _ _ c.in-Err.ensures.code read_refused _

pub returns-in-Err-clause-opens : goal.returns-in-Err-clause-opens
unfolding read_opens
returns-in-Err-clause-opens c = c.in-Err.ensures.opens ∙ ap (λ k. written k (opens_in c.args.file.now) c.args.opens.now) c.in-Err.ensures.code

pub returns-in-Err-clause-callouts : goal.returns-in-Err-clause-callouts
unfolding read_callouts
returns-in-Err-clause-callouts c =
    c.in-Err.ensures.callouts ∙ ap (λ k. written k (callouts_in c.args.file.now) c.args.callouts.now) c.in-Err.ensures.code
