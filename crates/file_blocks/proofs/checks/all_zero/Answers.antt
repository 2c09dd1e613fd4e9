-- The chain asks each byte whether it is 0.
use Rattle.std.proofs.Common.{rules, ◌∙◌, sym, eqb}
use Rattle.std.proofs.lemmas.Iterator.{YieldsList-from_slice}
use Rattle.std.proofs.lemmas.Iterator.Search.{all_from_yields_List}
use borrow.Author.Tests.{tests}
use Rattle.file_blocks.proofs.Comparing.{zeros_are}
use Rattle.file_blocks.proofs.checks.all_zero.Goals as goal

pub returns : goal.returns
returns c =
    all_from_yields_List (λ x. eqb x 0) _ _ _ c.all.ensures.ran (YieldsList-from_slice c.args.part.now (cc)) (λ x b q k. search (rules, tests))
    ∙ sym (zeros_are c.args.part.now)
