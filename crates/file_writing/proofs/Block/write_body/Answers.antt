-- Header, items and zeros are written, each over its part.
use Rattle.file_writing.proofs.WrittenBytes.{body-written}
use Rattle.file_writing.proofs.Block.write_body.Goals as goal

pub returns : goal.returns
returns c =
    let s = c.args.self.now in
    body-written _ _ _ _ s.opens.now s.callouts.now c.args.out.now _ _ _ s.sized.0 s.sized.1 c.requires c.write_header.ensures
    c.write_items.ensures (c.fill.ensures.after (λ y e. e))
