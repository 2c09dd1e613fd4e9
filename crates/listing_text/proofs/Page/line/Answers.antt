-- The word, the number, byte 10. Assumes nothing.
use Rattle.std.proofs.Common.{[], ◌∷◌, ◌++◌}
use Rattle.model.specs.Decimal.{decimal}
use Rattle.listing_text.proofs.Begun.{fits, more, fits_last, last}
use Rattle.listing_text.proofs.LineParts.{line_begun}
use Rattle.listing_text.proofs.Page.line.Goals as goal

pub text-requires : goal.text-requires
text-requires c = fits c.args.word.now (decimal c.args.x ++ (10 ∷ [])) (line_begun c.args.word.now c.args.x c.args.self.now c.requires)

pub number-requires : goal.number-requires
number-requires c =
    let word = more c.args.word.now (decimal c.args.x ++ (10 ∷ [])) (line_begun c.args.word.now c.args.x c.args.self.now c.requires) c.text.ensures in
    fits (decimal c.args.x) (10 ∷ []) word

pub byte-requires : goal.byte-requires
byte-requires c =
    let word = more c.args.word.now (decimal c.args.x ++ (10 ∷ [])) (line_begun c.args.word.now c.args.x c.args.self.now c.requires) c.text.ensures in
    fits_last (10 ∷ []) (more (decimal c.args.x) (10 ∷ []) word c.number.ensures)

pub returns : goal.returns
returns c =
    let word = more c.args.word.now (decimal c.args.x ++ (10 ∷ [])) (line_begun c.args.word.now c.args.x c.args.self.now c.requires) c.text.ensures in
    last (10 ∷ []) (more (decimal c.args.x) (10 ∷ []) word c.number.ensures) c.byte.ensures
