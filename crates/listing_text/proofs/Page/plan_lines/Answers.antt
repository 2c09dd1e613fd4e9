-- k plans are listed; the loop is left at 1,000 plans or at a refusal. Assumes nothing.
use Rattle.std.proofs.Common.{inl, inr, arith}
use Rattle.model.proofs.Accepted.{tables-from}
use Rattle.listing_text.specs.Writing.{end_or_more}
use Rattle.listing_text.proofs.Begun.{fits_last, last}
use Rattle.listing_text.proofs.PlansGiven.{given-none, line-fits, given-more, given_last}
use Rattle.listing_text.proofs.Page.plan_lines.Goals as goal
use Rattle.listing_text.proofs.Page.plan_lines.Goals.{else-loop-k-test, then-loop-k-test+else-s-eq0}

pub loop-k-init : goal.loop-k-init
loop-k-init c = given-none _ _ c.requires.0 c.requires.2 c.requires.1

pub plan_line-requires : goal.plan_line-requires
plan_line-requires c =
    let t = tables-from _ _ _ _ c.requires.0 in
    (omega (arith, t.few-items, t.callout-words), line-fits c.loop-k.invariant c.if-s-eq0.true c.loop-k-test.true)

pub loop-k-preserved : goal.loop-k-preserved
loop-k-preserved c = given-more c.loop-k.invariant c.if-s-eq0.true c.loop-k-test.true c.plan_line.ensures c.step-s.ensures

pub last_line-requires : goal.last_line-requires
last_line-requires c =
    let left = given_last c.loop-k.invariant (elim c.loop-k-test.branch [
      | else-loop-k-test w ↦ inl w.loop-k-test.false
      | then-loop-k-test+else-s-eq0 w ↦ inr w.if-s-eq0.false
    ]) in
    fits_last (end_or_more c.loop-k.k c.loop-k.s.answer.code) left

pub returns : goal.returns
returns c =
    let left = given_last c.loop-k.invariant (elim c.loop-k-test.branch [
      | else-loop-k-test w ↦ inl w.loop-k-test.false
      | then-loop-k-test+else-s-eq0 w ↦ inr w.if-s-eq0.false
    ]) in
    last (end_or_more c.loop-k.k c.loop-k.s.answer.code) left c.last_line.ensures
