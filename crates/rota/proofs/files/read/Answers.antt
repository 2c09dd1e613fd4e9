-- The file's refusal, then those for room, and both tables are stored last. Assumes nothing.
use Rattle.std.proofs.Common.{◌∙◌, refl, sym, arith}
use Rattle.std.proofs.lemmas.Result.{err_from_is_err_and}
use Rattle.model.specs.Refusal.{code_of, number}
use Rattle.model.specs.FileAnswers.{read_code}
use Rattle.model.proofs.Refusals.{stops, numbered, leaves_buffer}
use Rattle.file_reading.proofs.Rotas.{opens_are, callouts_are}
use Rattle.rota.proofs.FileTables.{opens_short, callouts_short, both_wide, stored}
use Rattle.rota.proofs.files.read.Goals as goal
use Rattle.rota.proofs.files.read.Goals.{then-opens-rota-via-then-opens-rota, then-opens-rota-via-else-opens-rota+then-callouts-rota}

pub returns-in_err-rota-clause-code : goal.returns-in_err-rota-clause-code
unfolding code_of read_code
returns-in_err-rota-clause-code c =
    let p = err_from_is_err_and c.from_residual.result c.from_residual.ensures.1 in
    rw (p.1, p.2) (stops _ _ _ c.in_err-rota.ensures.code (λ z. omega (arith, numbered c.in_err-rota.field-0.0, z)))

pub returns-in_err-rota-clause-opens : goal.returns-in_err-rota-clause-opens
returns-in_err-rota-clause-opens c =
    let p = err_from_is_err_and c.from_residual.result c.from_residual.ensures.1 in
    rw (p.1, p.2) (leaves_buffer _ c.in_err-rota.field-0.0 refl _ _)

pub returns-in_err-rota-clause-callouts : goal.returns-in_err-rota-clause-callouts
returns-in_err-rota-clause-callouts c =
    let p = err_from_is_err_and c.from_residual.result c.from_residual.ensures.1 in
    rw (p.1, p.2) (leaves_buffer _ c.in_err-rota.field-0.0 refl _ _)

pub returns-then-opens-rota-clause-code : goal.returns-then-opens-rota-clause-code
unfolding code_of number
returns-then-opens-rota-clause-code c =
    let r = c.in_ok-rota.ensures in
    elim c.then-opens-rota.branch [
      | then-opens-rota-via-then-opens-rota w ↦ opens_short _ _ _ _ r.code _ r.rota.0 w.if-opens-rota.true
      | then-opens-rota-via-else-opens-rota+then-callouts-rota w ↦
          callouts_short _ _ _ _ r.code _ r.rota.0 w.if-opens-rota.false w.if-callouts-rota.true
    ]

pub returns-then-opens-rota-clause-opens : goal.returns-then-opens-rota-clause-opens
returns-then-opens-rota-clause-opens c = leaves_buffer _ _ refl _ _

pub returns-then-opens-rota-clause-callouts : goal.returns-then-opens-rota-clause-callouts
returns-then-opens-rota-clause-callouts c = leaves_buffer _ _ refl _ _

pub returns-clause-code : goal.returns-clause-code
unfolding code_of
returns-clause-code c =
    let r = c.in_ok-rota.ensures in
    both_wide _ _ _ _ r.code _ r.rota.0 c.if-opens-rota.false c.if-callouts-rota.false

pub returns-clause-opens : goal.returns-clause-opens
unfolding code_of
returns-clause-opens c =
    let r = c.in_ok-rota.ensures in
    c.store.ensures ∙ stored _ _ _ (c.opens.ensures ∙ opens_are _ _ c.in_ok-rota.rota r.rota (sym r.code))

pub returns-clause-callouts : goal.returns-clause-callouts
unfolding code_of
returns-clause-callouts c =
    let r = c.in_ok-rota.ensures in
    c.store-2.ensures ∙ stored _ _ _ (c.callouts.ensures ∙ callouts_are _ _ c.in_ok-rota.rota r.rota (sym r.code))
