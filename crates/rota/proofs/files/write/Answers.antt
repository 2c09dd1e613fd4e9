-- The tables' refusal, then that for room, and the blocks are written last. Assumes nothing.
use Rattle.std.proofs.Common.{◌∙◌, refl, sym, ap, length-take, arith}
use Rattle.std.proofs.lemmas.Result.{err_from_is_err_and}
use Rattle.model.specs.declared.Edition.{Edition}
use Rattle.model.specs.Refusal.{code_of, number}
use Rattle.model.specs.File.{blocks_for, file_bytes}
use Rattle.model.specs.FileAnswers.{write_code}
use Rattle.model.proofs.Accepted.{tables-from}
use Rattle.model.proofs.Editions.{one_tells}
use Rattle.model.proofs.Refusals.{stops, numbered, leaves_buffer}
use Rattle.rota.proofs.FileTables.{bytes_short, bytes_wide, file_written}
use Rattle.rota.proofs.files.write.Goals as goal

pub returns-in_err-accepted-clause-code : goal.returns-in_err-accepted-clause-code
unfolding code_of write_code
returns-in_err-accepted-clause-code c =
    let p = err_from_is_err_and c.from_residual.result c.from_residual.ensures.1 in
    rw (p.1, p.2) (stops _ _ _ c.in_err-accepted.ensures (λ z. omega (arith, numbered c.in_err-accepted.field-0.0, z)))

pub returns-in_err-accepted-clause-file : goal.returns-in_err-accepted-clause-file
returns-in_err-accepted-clause-file c =
    let p = err_from_is_err_and c.from_residual.result c.from_residual.ensures.1 in
    rw (p.1, p.2) (leaves_buffer _ c.in_err-accepted.field-0.0 refl _ _)

pub blocks_for-size-requires : goal.blocks_for-size-requires
unfolding code_of
blocks_for-size-requires c = (tables-from _ _ _ _ (sym c.in_ok-accepted.ensures)).few-items

pub returns-then-file-size-clause-code : goal.returns-then-file-size-clause-code
unfolding code_of number
returns-then-file-size-clause-code c =
    bytes_short _ _ _ _ c.in_ok-accepted.ensures _ c.blocks_for-size.ensures.0 _ c.if-file-size.true

pub returns-then-file-size-clause-file : goal.returns-then-file-size-clause-file
returns-then-file-size-clause-file c = leaves_buffer _ _ refl _ _

pub write_blocks-requires : goal.write_blocks-requires
unfolding code_of
write_blocks-requires c =
    let t = tables-from _ _ _ _ (sym c.in_ok-accepted.ensures) in
    let blocks = ap blocks_for t.open_words in (
      omega (arith, t.open_words, t.few-items),
      t.few-items,
      t.callout-words ∙ sym t.open_words,
      simp length-take (omega (arith, blocks, c.blocks_for-size.ensures.0)),
    )

pub returns-clause-code : goal.returns-clause-code
unfolding code_of
returns-clause-code c = bytes_wide _ _ _ _ c.in_ok-accepted.ensures _ c.blocks_for-size.ensures.0 _ c.if-file-size.false

pub returns-clause-file : goal.returns-clause-file
unfolding code_of
returns-clause-file c =
    let t = tables-from _ _ _ _ (sym c.in_ok-accepted.ensures) in
    let a = c.args in
    file_written _ _ _ _ c.in_ok-accepted.ensures _ c.blocks_for-size.ensures.0 Edition.One t.few-items (one_tells a.n)
    (λ i h. (c.type_inv.callouts i).fits) a.file.now
    (c.write_blocks.ensures ∙ ap (λ k. file_bytes Edition.One k a.n a.opens.now a.callouts.now) t.open_words)
