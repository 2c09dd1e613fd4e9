-- The refusal of the file, or the listing of its rota. Assumes nothing.
use Rattle.std.proofs.Common.{sym}
use lib.Seq.{length-take-le}
use Rattle.listing_text.proofs.FileListing.{refusal_fits, refusal_written, opens_long, callouts_long, rota_accepted, rota_fits, rota_written}
use Rattle.listing_text.proofs.Page.listing.Goals as goal

pub line-requires : goal.line-requires
line-requires c =
    rw c.from.ensures (refusal_fits c.args.file.now _ c.rota_read_file-read.ensures.answer c.args.self.now c.requires c.if-read-ne0.true)

pub returns-then-read-ne0 : goal.returns-then-read-ne0
returns-then-read-ne0 c =
    refusal_written c.args.file.now _ c.rota_read_file-read.ensures.answer c.args.self.now c.requires c.if-read-ne0.true
    (rw c.from.ensures at c.line.ensures)

pub slice_bounds-opens-end : goal.slice_bounds-opens-end
slice_bounds-opens-end c =
    let r = c.rota_read_file-read.ensures in
    opens_long c.args.file.now _ r.answer c.args.self.now c.requires c.if-read-ne0.false _ _ r.opens r.callouts

pub slice_bounds-rota-end : goal.slice_bounds-rota-end
slice_bounds-rota-end c =
    let r = c.rota_read_file-read.ensures in
    sym (length-take-le _ _ (opens_long c.args.file.now _ r.answer c.args.self.now c.requires c.if-read-ne0.false _ _ r.opens r.callouts))

pub slice_bounds-callouts-end : goal.slice_bounds-callouts-end
slice_bounds-callouts-end c =
    let r = c.rota_read_file-read.ensures in
    callouts_long c.args.file.now _ r.answer c.args.self.now c.requires c.if-read-ne0.false _ _ r.opens r.callouts

pub slice_bounds-rota-end-else-read-ne0 : goal.slice_bounds-rota-end-else-read-ne0
slice_bounds-rota-end-else-read-ne0 c =
    let r = c.rota_read_file-read.ensures in
    sym (length-take-le _ _ (callouts_long c.args.file.now _ r.answer c.args.self.now c.requires c.if-read-ne0.false _ _ r.opens r.callouts))

pub rota-requires : goal.rota-requires
rota-requires c =
    let r = c.rota_read_file-read.ensures in (
      rota_accepted c.args.file.now _ r.answer c.args.self.now c.requires c.if-read-ne0.false _ _ r.opens r.callouts,
      rota_fits c.args.file.now _ r.answer c.args.self.now c.requires c.if-read-ne0.false _ _ r.opens r.callouts,
    )

pub returns-else-read-ne0 : goal.returns-else-read-ne0
returns-else-read-ne0 c =
    let r = c.rota_read_file-read.ensures in
    rota_written c.args.file.now _ r.answer c.args.self.now c.requires c.if-read-ne0.false _ _ r.opens r.callouts c.rota.ensures
