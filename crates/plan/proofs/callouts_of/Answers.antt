-- The callouts are counted item by item. Assumes nothing.
use Rattle.std.proofs.Common.{◌∙◌, sym, arith}
use Rattle.std.proofs.lemmas.List.{length_push}
use Rattle.std.proofs.lemmas.Slice.Zip.{zip_turn, zip_end}
use Rattle.plan.proofs.Counts.{none, one_more, no_more, all}
use Rattle.plan.proofs.callouts_of.Goals as goal

pub loop-word-init : goal.loop-word-init
loop-word-init c = none

pub loop-word-preserved-then-is_callout : goal.loop-word-preserved-then-is_callout
loop-word-preserved-then-is_callout c =
    let t = zip_turn c.args.callouts.now c.args.plan c.loop-word.yielded
    c.into_iter-word-iterator.result _ c.next.new.self _ (cc) (cc) c.loop-word.yielded_by _ c.in-Some.is c.next.ensures.steps in
    rw length_push (one_more c.loop-word.invariant (t.2 0) (t.3 0) (sym c.is_callout.ensures ∙ c.if-is_callout.true))

pub loop-word-preserved : goal.loop-word-preserved
loop-word-preserved c =
    let t = zip_turn c.args.callouts.now c.args.plan c.loop-word.yielded
    c.into_iter-word-iterator.result _ c.next.new.self _ (cc) (cc) c.loop-word.yielded_by _ c.in-Some.is c.next.ensures.steps in
    rw length_push (no_more c.loop-word.invariant (t.2 0) (t.3 0) (sym c.is_callout.ensures ∙ c.if-is_callout.false))

pub returns : goal.returns
returns c =
    let e = zip_end c.args.callouts.now c.args.plan c.loop-word.yielded
    c.into_iter-word-iterator.result _ c.next.new.self _ (cc) (cc) c.loop-word.yielded_by c.in-None.is c.next.ensures.steps in
    all c.loop-word.invariant (omega (arith, e))
