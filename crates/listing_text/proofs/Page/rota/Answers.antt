-- A refusal stands alone; else the first line, and the lines of the plans. Assumes nothing.
use Rattle.std.proofs.Common.{length}
use Rattle.model.specs.ListingText.{rota_word, number_line}
use Rattle.listing_text.specs.Writing.{after_first}
use Rattle.listing_text.proofs.Begun.{fits, more, fits_last, last}
use Rattle.listing_text.proofs.FirstSteps.{refused-fits, refused-written, rota_begun}
use Rattle.listing_text.proofs.Page.rota.Goals as goal

pub line-requires : goal.line-requires
line-requires c =
    rw c.from.ensures
    (refused-fits c.args.opens.now c.args.callouts.now c.requires.0 c.step-first.ensures c.if-code-ne0.true c.args.self.now c.requires.1)

pub returns-then-code-ne0 : goal.returns-then-code-ne0
returns-then-code-ne0 c =
    refused-written c.args.opens.now c.args.callouts.now c.requires.0 c.step-first.ensures c.if-code-ne0.true (rw c.from.ensures at c.line.ensures)

pub line-requires-else-code-ne0 : goal.line-requires-else-code-ne0
line-requires-else-code-ne0 c =
    fits (number_line rota_word (length c.args.opens.now)) (after_first c.args.opens.now c.args.callouts.now)
    (rota_begun c.args.opens.now c.args.callouts.now c.requires.0 c.step-first.ensures c.if-code-ne0.false c.args.self.now c.requires.1)

pub plan_lines-requires : goal.plan_lines-requires
plan_lines-requires c =
    let line =
    more (number_line rota_word (length c.args.opens.now)) (after_first c.args.opens.now c.args.callouts.now)
    (rota_begun c.args.opens.now c.args.callouts.now c.requires.0 c.step-first.ensures c.if-code-ne0.false c.args.self.now c.requires.1)
    c.line-else-code-ne0.ensures in
    (c.requires.0, c.step-first.ensures, fits_last (after_first c.args.opens.now c.args.callouts.now) line)

pub returns-else-code-ne0 : goal.returns-else-code-ne0
returns-else-code-ne0 c =
    let line =
    more (number_line rota_word (length c.args.opens.now)) (after_first c.args.opens.now c.args.callouts.now)
    (rota_begun c.args.opens.now c.args.callouts.now c.requires.0 c.step-first.ensures c.if-code-ne0.false c.args.self.now c.requires.1)
    c.line-else-code-ne0.ensures in
    last (after_first c.args.opens.now c.args.callouts.now) line c.plan_lines.ensures
