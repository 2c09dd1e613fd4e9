-- A slot fewer is left. Assumes nothing.
use Rattle.std.proofs.Common.{rules}
use Rattle.words.specs.Word.{lowest}
use Rattle.words.proofs.Bits.{without-less}
use Rattle.words.proofs.SetLaws.{bit-lowest}
use Rattle.words.proofs.SlotsIterator.next.Goals as goal

pub returns-clause-goes : goal.returns-clause-goes
returns-clause-goes c =
    let w = c.args.self.now.0 in
    let less = without-less w (lowest w) (bit-lowest w c.if-self-eq0.false (search rules)) in
    record { on = λ _. (tt, tt, rw c.without_lowest-self.ensures less); keeps = tt; rests = λ _. tt }
