-- The file's refusal, that of its words, or its rota.
use Rattle.std.proofs.Common.{◌∙◌, sym, arith}
use Rattle.std.proofs.lemmas.Result.{err_from_is_err_and}
use Rattle.model.specs.Refusal.{or_else, code_of}
use Rattle.model.proofs.Editions.{slots-few}
use Rattle.model.proofs.Refusals.{or-first, numbered}
use Rattle.file_reading.proofs.Inside.{room_for, cells_are, is_rota}
use Rattle.file_reading.proofs.rota_in.Goals as goal

pub returns-in_err-n-clause-code : goal.returns-in_err-n-clause-code
unfolding code_of
returns-in_err-n-clause-code c =
    let p = err_from_is_err_and c.from_residual.result c.from_residual.ensures.1 in
    rw (p.1, p.2) (sym (or-first _ _ (λ z. omega (arith, numbered c.in_err-n.field-0.0, z))) ∙ c.in_err-n.ensures.code)

pub slots_in-requires : goal.slots_in-requires
slots_in-requires c = let r = room_for c.args.edition c.args.file.now c.in_ok-n.ensures.laid in omega (arith, r.some)

pub words_in-requires : goal.words_in-requires
words_in-requires c =
    let r = room_for c.args.edition c.args.file.now c.in_ok-n.ensures.laid in
    (omega arith, r.few, r.enough)

pub words_in-requires-2 : goal.words_in-requires-2
words_in-requires-2 c =
    let r = room_for c.args.edition c.args.file.now c.in_ok-n.ensures.laid in
    (omega arith, r.few, r.enough)

pub invariant_of-rota : goal.invariant_of-rota
invariant_of-rota c = record { few = (room_for c.args.edition c.args.file.now c.in_ok-n.ensures.laid).few }

pub cells-requires-clause-m_bound : goal.cells-requires-clause-m_bound
cells-requires-clause-m_bound c =
    let r = room_for c.args.edition c.args.file.now c.in_ok-n.ensures.laid in
    omega (arith, c.from-m.ensures, c.slots_in.ensures, slots-few c.args.edition c.args.file.now r.items r.few)

pub returns-in_err-cells-clause-code : goal.returns-in_err-cells-clause-code
unfolding code_of or_else
returns-in_err-cells-clause-code c =
    let r = room_for c.args.edition c.args.file.now c.in_ok-n.ensures.laid in
    let p = err_from_is_err_and c.from_residual-in_err-cells.result c.from_residual-in_err-cells.ensures.1 in
    rw (p.1, p.2) (
    c.in_err-cells.ensures
    ∙ cells_are c.args.edition c.args.file.now r (c.from-m.ensures ∙ c.slots_in.ensures) c.words_in.ensures c.words_in-2.ensures
    c.opens.ensures c.callouts.ensures
    ∙ c.in_ok-n.ensures.code
    )

pub returns-clause-code : goal.returns-clause-code
unfolding code_of or_else
returns-clause-code c =
    let r = room_for c.args.edition c.args.file.now c.in_ok-n.ensures.laid in
    c.in_ok-cells.ensures
    ∙ cells_are c.args.edition c.args.file.now r (c.from-m.ensures ∙ c.slots_in.ensures) c.words_in.ensures c.words_in-2.ensures
    c.opens.ensures c.callouts.ensures
    ∙ c.in_ok-n.ensures.code

pub returns-clause-rota : goal.returns-clause-rota
returns-clause-rota c =
    let r = room_for c.args.edition c.args.file.now c.in_ok-n.ensures.laid in
    is_rota c.args.edition c.args.file.now r (c.from-m.ensures ∙ c.slots_in.ensures) c.words_in.ensures c.words_in-2.ensures
