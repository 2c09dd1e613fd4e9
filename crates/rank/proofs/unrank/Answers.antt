-- `rank::unrank` meets its contract: each turn passes over a slot, or gives it to the item. Assumes nothing.
use Rattle.std.proofs.Common.{refl, arith}
use Rattle.rank.proofs.Unranking.{unranking_start, some_left, slot-fits, unrank_turn, unranking_end}
use Rattle.rank.proofs.unrank.Goals as goal
use Rattle.rank.proofs.unrank.Goals.{in-None, in-Some+then-further-ways}

pub loop-i-init : goal.loop-i-init
loop-i-init c = unranking_start _ _ _ c.requires.0 c.requires.1 c.low-set.ensures refl

pub without-others-requires : goal.without-others-requires
without-others-requires c = omega (arith, slot-fits c.requires.0 c.loop-slot.invariant c.loop-i-test.true c.in-Some.ensures.steps.1)

pub offset_bounds-tally-others : goal.offset_bounds-tally-others
offset_bounds-tally-others c =
    let turn = unrank_turn c.requires.0 c.loop-slot.invariant c.loop-i-test.true c.in-Some.ensures.steps c.without-others.ensures in
    omega (arith, turn.in_tally)

pub bounds-tally-others : goal.bounds-tally-others
bounds-tally-others c =
    (unrank_turn c.requires.0 c.loop-slot.invariant c.loop-i-test.true c.in-Some.ensures.steps c.without-others.ensures).in_tally

pub overflow_cast-plan : goal.overflow_cast-plan
overflow_cast-plan c = omega (arith, slot-fits c.requires.0 c.loop-slot.invariant c.loop-i-test.true c.in-Some.ensures.steps.1)

pub loop-slot-preserved : goal.loop-slot-preserved
loop-slot-preserved c =
    (unrank_turn c.requires.0 c.loop-slot.invariant c.loop-i-test.true c.in-Some.ensures.steps c.without-others.ensures).passed_over
    c.if-further-ways.false

pub loop-i-preserved : goal.loop-i-preserved
loop-i-preserved c = elim c.match-next.branch [
  | in-None w ↦ absurd (some_left c.requires.0 c.loop-slot.invariant c.loop-i-test.true w.in-None.ensures.steps.0)
  | in-Some+then-further-ways w ↦
      rw (w.plan-is, w.set-is)
      ((unrank_turn c.requires.0 c.loop-slot.invariant c.loop-i-test.true w.in-Some.ensures.steps w.without-others.ensures).given
      w.if-further-ways.true)
]

pub returns : goal.returns
returns c = unranking_end c.loop-i.invariant c.loop-i-test.false
