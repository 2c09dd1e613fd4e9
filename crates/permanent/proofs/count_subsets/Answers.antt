-- `permanent::count_subsets` meets its contract: words are written upward, each from those below it. Assumes nothing.
use Rattle.std.proofs.Common.{arith}
use Rattle.permanent.proofs.Upward.{upward_start, sized, room, turn, upward_end}
use Rattle.permanent.proofs.count_subsets.Goals as goal

pub loop-set-init : goal.loop-set-init
loop-set-init c = upward_start c.args.counts.now c.requires c.single-end.ensures c.complete-plans.ensures

pub last_open-requires : goal.last_open-requires
last_open-requires c = sized c.loop-set.invariant c.loop-set-test.true c.size-k.ensures

pub subset_count-ways-requires : goal.subset_count-ways-requires
subset_count-ways-requires c = room c.loop-set.invariant c.loop-set-test.true c.size-k.ensures c.last_open.ensures

pub overflow_add-plans : goal.overflow_add-plans
overflow_add-plans c =
    let t = turn c.loop-set.invariant c.loop-set-test.true c.size-k.ensures c.last_open.ensures
    c.subset_count-ways.ensures c.complete-plans-in-loop-set.ensures in
    omega (arith, t.fits)

pub loop-set-preserved : goal.loop-set-preserved
loop-set-preserved c =
    (turn c.loop-set.invariant c.loop-set-test.true c.size-k.ensures c.last_open.ensures c.subset_count-ways.ensures
    c.complete-plans-in-loop-set.ensures).next

pub returns-clause-answer : goal.returns-clause-answer
returns-clause-answer c = (upward_end _ c.loop-set.invariant c.loop-set-test.false).0

pub returns-clause-table : goal.returns-clause-table
returns-clause-table c = (upward_end _ c.loop-set.invariant c.loop-set-test.false).1
