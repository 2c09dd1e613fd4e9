-- A digit, two, or the digits of a tenth and one more. Assumes nothing.
use Rattle.std.proofs.Common.{arith}
use Rattle.listing_text.proofs.Begun.{fits_last, last}
use Rattle.listing_text.proofs.Digits.{only_digit, two_digits, tenth_room, last_digit}
use Rattle.listing_text.proofs.Page.+number.Goals as goal

pub byte-requires : goal.byte-requires
byte-requires t c = fits_last _ (only_digit c.args.x c.args.self.now c.requires c.if-x-lt10.true)

pub returns-then-x-lt10 : goal.returns-then-x-lt10
returns-then-x-lt10 t c = last _ (only_digit c.args.x c.args.self.now c.requires c.if-x-lt10.true) c.byte.ensures

pub text-requires : goal.text-requires
text-requires t c = fits_last _ (two_digits c.args.x c.args.self.now c.requires (omega arith) c.if-x-lt100.true)

pub returns-then-x-lt100 : goal.returns-then-x-lt100
returns-then-x-lt100 t c = last _ (two_digits c.args.x c.args.self.now c.requires (omega arith) c.if-x-lt100.true) c.text.ensures

pub number-requires : goal.number-requires
number-requires t c = (omega arith, tenth_room c.args.x c.args.self.now c.requires (omega arith) (omega arith))

pub byte-requires-2 : goal.byte-requires-2
byte-requires-2 t c = fits_last _ (last_digit c.args.x c.args.self.now c.requires (omega arith) (omega arith) c.number.ensures)

pub returns : goal.returns
returns t c = last _ (last_digit c.args.x c.args.self.now c.requires (omega arith) (omega arith) c.number.ensures) c.byte-2.ensures
