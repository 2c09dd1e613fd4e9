-- A free slot is at hand, or the next layer is searched. Assumes nothing.
use Rattle.std.proofs.Common.{rules, arith}
use lib.Seq.{take-length}
use Rattle.augment.proofs.Searches.{vacate_owners, word_at_hand, word_layer}
use Rattle.augment.proofs.Matching.+vacate.Goals as goal

pub span-reach-requires : goal.span-reach-requires
span-reach-requires t c = vacate_owners c.requires

pub relocate-requires : goal.relocate-requires
relocate-requires t c = word_at_hand c.requires c.span-reach.ensures c.unheld-hit.ensures (search rules) c.if-hit-ne0.true c.lowest.ensures

pub returns-then-layer-eq0-clause-none : goal.returns-then-layer-eq0-clause-none
returns-then-layer-eq0-clause-none t c =
    let L = word_layer c.requires c.span-reach.ensures c.unheld-hit.ensures c.ranges.seen.fits c.minus-layer.ensures c.if-hit-ne0.false in
    L.done c.if-layer-eq0.true

pub vacate-requires : goal.vacate-requires
vacate-requires t c =
    let L = word_layer c.requires c.span-reach.ensures c.unheld-hit.ensures c.ranges.seen.fits c.minus-layer.ensures c.if-hit-ne0.false in
    rw take-length (omega (arith, c.decreases, L.more c.if-layer-eq0.false), L.vacatable)

pub returns-in_err-h-clause-none : goal.returns-in_err-h-clause-none
returns-in_err-h-clause-none t c =
    let L = word_layer c.requires c.span-reach.ensures c.unheld-hit.ensures c.ranges.seen.fits c.minus-layer.ensures c.if-hit-ne0.false in
    let r = L.certificate (rw take-length at c.in_err-h.ensures.none) in search rules

pub relocate-requires-2 : goal.relocate-requires-2
relocate-requires-2 t c =
    let L = word_layer c.requires c.span-reach.ensures c.unheld-hit.ensures c.ranges.seen.fits c.minus-layer.ensures c.if-hit-ne0.false in
    L.relocatable (rw take-length at c.in_ok-h.ensures.found)

pub returns-clause-found : goal.returns-clause-found
returns-clause-found t c =
    let L = word_layer c.requires c.span-reach.ensures c.unheld-hit.ensures c.ranges.seen.fits c.minus-layer.ensures c.if-hit-ne0.false in
    L.vacated (rw take-length at c.in_ok-h.ensures.found) c.relocate-2.ensures
