-- What was written, or its refusal. Assumes nothing.
use Rattle.std.proofs.Common.{ℕ, ◌∙◌, sym, ap}
use Rattle.model.specs.declared.Edition.{Edition}
use Rattle.model.specs.declared.WriteAnswer.{WriteAnswer}
use Rattle.model.specs.Refusal.{code_of, written}
use Rattle.model.specs.File.{file_bytes}
use Rattle.model.specs.FileAnswers.{write_refused, write_answer, write_file}
use Rattle.model.proofs.Refusals.{answers_number, accepted-answer}
use Rattle.rota.proofs.files.rota_write_file.Goals as goal

pub returns-in-Ok-clause-answer : goal.returns-in-Ok-clause-answer
unfolding code_of write_answer
returns-in-Ok-clause-answer c =
    let whole : ℕ → WriteAnswer = λ k. record { code = 0; bytes = k } in
    c.given.ensures ∙ ap whole c.in-Ok.ensures.bytes ∙ accepted-answer _ (sym c.in-Ok.ensures.code) write_refused _

pub returns-in-Ok-clause-file : goal.returns-in-Ok-clause-file
unfolding write_file
returns-in-Ok-clause-file c =
    let a = c.args in
    c.in-Ok.ensures.file ∙ ap (λ k. written k (file_bytes Edition.One a.n a.n a.opens.now a.callouts.now) a.file.now) c.in-Ok.ensures.code

pub returns-in-Err-clause-answer : goal.returns-in-Err-clause-answer
unfolding write_answer
returns-in-Err-clause-answer c = c.refused.ensures ∙ answers_number _ _ c.in-Err.ensures.code write_refused _

pub returns-in-Err-clause-file : goal.returns-in-Err-clause-file
unfolding write_file
returns-in-Err-clause-file c =
    let a = c.args in
    c.in-Err.ensures.file ∙ ap (λ k. written k (file_bytes Edition.One a.n a.n a.opens.now a.callouts.now) a.file.now) c.in-Err.ensures.code
