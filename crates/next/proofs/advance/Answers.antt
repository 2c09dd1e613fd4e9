-- An item that can not advance joins the stuck ones, the first that can gives the next plan. Assumes nothing.
use Rattle.std.proofs.Common.{◌-◌, ◌∙◌, arith, rules}
use Rattle.model.specs.Refusal.{number}
use Rattle.next.proofs.Advances.{Trying, advancing_start, advancing_trying, advancing_end}
use Rattle.next.proofs.Advances.{trying_minimizable, trying_stuck, trying_settleable, trying_found}
use Rattle.next.proofs.advance.Goals as goal
use Rattle.next.proofs.advance.Goals.{After-without-fixed}

-- item i is tried
trying : (c : After-without-fixed)
    → Trying c.args.opens.now c.args.m.now.slot c.loop-i.m.owner c.loop-i.m.slot c.loop-i.m.free c.without-fixed.result c.loop-i.after
    (c.loop-i.i - 1)
trying c = advancing_trying c.loop-i.invariant (omega arith) c.slot_of.ensures c.without-fixed.ensures

pub loop-i-init : goal.loop-i-init
loop-i-init c = advancing_start (search rules) c.requires c.low.ensures c.minus-fixed.ensures

pub advance_item-requires : goal.advance_item-requires
advance_item-requires c = trying_minimizable (trying (goal.at.advance_item-requires c).After-without-fixed)

pub settle-requires : goal.settle-requires
settle-requires c = trying_settleable (trying (goal.at.settle-requires c).After-without-fixed) c.in-Some.ensures.found c.with.ensures

pub returns-in-Some : goal.returns-in-Some
returns-in-Some c =
    c.given.ensures ∙ trying_found (trying (goal.at.returns-in-Some c).After-without-fixed) c.in-Some.ensures.found c.settle.ensures

pub loop-i-preserved : goal.loop-i-preserved
loop-i-preserved c =
    rw c.in_default.ensures.same (trying_stuck (trying (goal.at.loop-i-preserved c).After-without-fixed) c.in_default.ensures.none)

pub returns : goal.returns
unfolding number
returns c = let last = advancing_end c.loop-i.invariant (omega arith) in cc
