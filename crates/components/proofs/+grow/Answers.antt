-- The set leads back into the path, or to a new slot from which the search goes on, or it is a component. Assumes nothing.
use Rattle.std.proofs.Common.{rules, arith}
use Rattle.components.proofs.Grows.{grow_back, step}
use Rattle.components.proofs.Finishes.{finish_owners, finish}
use Rattle.components.proofs.+grow.Goals as goal

pub returns-then-next-path-ne0 : goal.returns-then-next-path-ne0
returns-then-next-path-ne0 t c = grow_back c.loop-next.invariant c.if-next-path-ne0.true

pub holder-requires : goal.holder-requires
holder-requires t c =
    let next = step c.loop-next.invariant c.loop-next-test.true c.if-next-path-ne0.false c.lowest-k.ensures in
    next.below

pub single-requires : goal.single-requires
single-requires t c = (step c.loop-next.invariant c.loop-next-test.true c.if-next-path-ne0.false c.lowest-k.ensures).below

pub offset_bounds-opens-holder : goal.offset_bounds-opens-holder
offset_bounds-opens-holder t c =
    let next = step c.loop-next.invariant c.loop-next-test.true c.if-next-path-ne0.false c.lowest-k.ensures in
    let T = c.requires.0.complete.table in
    omega (arith, T.item _ next.below next.held, T.few, c.holder.ensures)

pub bounds-opens-holder : goal.bounds-opens-holder
bounds-opens-holder t c =
    let next = step c.loop-next.invariant c.loop-next-test.true c.if-next-path-ne0.false c.lowest-k.ensures in
    rw c.holder.ensures (c.requires.0.complete.table.item _ next.below next.held)

pub grow-r-requires : goal.grow-r-requires
grow-r-requires t c =
    let next = step c.loop-next.invariant c.loop-next-test.true c.if-next-path-ne0.false c.lowest-k.ensures in
    rw (c.single.ensures, c.holder.ensures) (omega (arith, c.decreases, next.fewer), (c.requires.0, next.growing))

pub loop-next-smaller : goal.loop-next-smaller
loop-next-smaller t c =
    let next = step c.loop-next.invariant c.loop-next-test.true c.if-next-path-ne0.false c.lowest-k.ensures in
    next.less (rw (c.single.ensures, c.holder.ensures) at c.grow-r.ensures)

pub loop-next-preserved : goal.loop-next-preserved
loop-next-preserved t c =
    let next = step c.loop-next.invariant c.loop-next-test.true c.if-next-path-ne0.false c.lowest-k.ensures in
    next.again (rw (c.single.ensures, c.holder.ensures) at c.grow-r.ensures) (search rules) (search rules) c.minus-next-in-loop-next.ensures

pub mark-requires : goal.mark-requires
mark-requires t c =
    rw c.minus.ensures (finish_owners c.requires.0 c.loop-next.invariant (search rules) c.loop-next-test.false)

pub returns : goal.returns
returns t c =
    rw c.minus-2.ensures
    (finish c.requires.0 c.loop-next.invariant (search rules) c.loop-next-test.false (rw c.minus.ensures at c.mark.ensures))
