-- A space, then the number. Assumes nothing.
use Rattle.std.proofs.Common.{[], ◌∷◌}
use Rattle.model.specs.Decimal.{decimal}
use Rattle.listing_text.proofs.Begun.{fits, more, fits_last, last}
use Rattle.listing_text.proofs.LineParts.{slot_begun}
use Rattle.listing_text.proofs.Page.slot.Goals as goal

pub byte-requires : goal.byte-requires
byte-requires c = fits (32 ∷ []) (decimal _) (slot_begun c.args.j c.args.self.now c.requires)

pub number-requires : goal.number-requires
number-requires c =
    let digits = more (32 ∷ []) (decimal _) (slot_begun c.args.j c.args.self.now c.requires) c.byte.ensures in
    rw c.from.ensures (fits_last (decimal _) digits)

pub returns : goal.returns
returns c =
    let digits = more (32 ∷ []) (decimal _) (slot_begun c.args.j c.args.self.now c.requires) c.byte.ensures in
    last (decimal _) digits (rw c.from.ensures at c.number.ensures)
