-- `rank::rank` meets its contract: each turn counts the plans of a lower slot, or comes to the item's own. Assumes nothing.
use Rattle.std.proofs.Common.{refl, sym, ◌∙◌, arith}
use Rattle.rank.proofs.Ranking.{ranking_start, some_left, slot-fits, rank_turn, ranking_end}
use Rattle.rank.proofs.rank.Goals as goal
use Rattle.rank.proofs.rank.Goals.{in-None, in-Some+then-slot-own}

pub loop-i-init : goal.loop-i-init
loop-i-init c = let q = c.requires in ranking_start q.0 q.1 q.2 c.low-set.ensures refl

pub without-others-requires : goal.without-others-requires
without-others-requires c =
    let q = c.requires in
    omega (arith, slot-fits q.0 q.1 q.2 c.loop-slot.invariant c.loop-i-test.true c.in-Some.ensures.steps.1)

pub offset_bounds-tally-others : goal.offset_bounds-tally-others
offset_bounds-tally-others c =
    let q = c.requires in
    let turn = rank_turn q.0 q.1 q.2 c.loop-slot.invariant c.loop-i-test.true c.in-Some.ensures.steps c.without-others.ensures in
    omega (arith, turn.in_tally)

pub bounds-tally-others : goal.bounds-tally-others
bounds-tally-others c =
    let q = c.requires in
    (rank_turn q.0 q.1 q.2 c.loop-slot.invariant c.loop-i-test.true c.in-Some.ensures.steps c.without-others.ensures).in_tally

pub overflow_add-number : goal.overflow_add-number
overflow_add-number c =
    let q = c.requires in
    let turn = rank_turn q.0 q.1 q.2 c.loop-slot.invariant c.loop-i-test.true c.in-Some.ensures.steps c.without-others.ensures in
    omega (arith, turn.fits)

pub loop-slot-preserved : goal.loop-slot-preserved
loop-slot-preserved c =
    let q = c.requires in
    let turn = rank_turn q.0 q.1 q.2 c.loop-slot.invariant c.loop-i-test.true c.in-Some.ensures.steps c.without-others.ensures in
    turn.passed_over (λ e. c.if-slot-own.false (e ∙ sym c.from-own.ensures))

pub loop-i-preserved : goal.loop-i-preserved
loop-i-preserved c = elim c.match-next.branch [
  | in-None w ↦ absurd (some_left c.requires.0 c.requires.1 c.requires.2 c.loop-slot.invariant c.loop-i-test.true w.in-None.ensures.steps.0)
  | in-Some+then-slot-own w ↦
      let q = c.requires in
      rw w.set-is
      ((rank_turn q.0 q.1 q.2 c.loop-slot.invariant c.loop-i-test.true w.in-Some.ensures.steps w.without-others.ensures).given
      (w.if-slot-own.true ∙ c.from-own.ensures))
]

pub returns : goal.returns
returns c = let q = c.requires in ranking_end q.0 q.1 q.2 c.loop-i.invariant c.loop-i-test.false
