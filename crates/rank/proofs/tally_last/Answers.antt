-- The items backwards are all of the words that the counts are asked for. Assumes nothing.
use Rattle.std.proofs.Common.{◌∙◌, ap, sym, length}
use lib.ListN.{length-reverse}
use lib.Seq.{take_at}
use Rattle.model.specs.Count.{subset_counts}
use Rattle.model.specs.Refusal.{written}
use Rattle.model.proofs.LastItems.{lasts_reversed}
use Rattle.rank.proofs.tally_last.Goals as goal

pub returns : goal.returns
returns c =
    let n = length c.args.opens.now in
    let size = ap length c.backwards.ensures ∙ length-reverse c.args.opens.now in
    let words = take_at c.backwards.new.words _ n size ∙ c.backwards.ensures in
    c.count_subsets.ensures.table ∙ ap (λ l. written 0 l c.args.tally.now) (ap (subset_counts n) words ∙ sym (lasts_reversed n c.args.opens.now))
