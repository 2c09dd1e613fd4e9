-- Without a plan 9, else the cheapest plan or 11. Assumes nothing.
use Rattle.std.proofs.Common.{◌∙◌, arith}
use Rattle.augment.proofs.Completes.{complete-plan}
use Rattle.maximum.proofs.Deficient.{none-exposed-complete}
use Rattle.maximum.proofs.Filling.{all-fillable}
use Rattle.min_cost.proofs.DualBounds.{open_range, answer-none, number_small, answer-within, answer-over}
use Rattle.min_cost.proofs.fewest_plan.Goals as goal

pub fill-left-requires : goal.fill-left-requires
fill-left-requires c = rw c.empty-m.ensures (all-fillable _ c.requires.few (open_range c.requires) _ c.low.ensures)

pub returns-then-left-ne0 : goal.returns-then-left-ne0
returns-then-left-ne0 c = c.no_plan.ensures ∙ answer-none c.requires _ c.fill-left.ensures c.if-left-ne0.true

pub cheapest-cheap-requires : goal.cheapest-cheap-requires
cheapest-cheap-requires c =
    (c.requires, (_, complete-plan _ _ _ _ (none-exposed-complete _ _ _ _ _ _ c.fill-left.ensures c.if-left-ne0.false)))

pub overflow_cast-number : goal.overflow_cast-number
overflow_cast-number c = record { fits = omega (arith, number_small c.requires 0 c.cheapest-cheap.ensures) }

pub returns-then-number-cap : goal.returns-then-number-cap
returns-then-number-cap c = c.given.ensures ∙ answer-within c.requires _ c.cheapest-cheap.ensures (omega (arith, c.if-number-cap.true))

pub returns : goal.returns
returns c = c.over_cap.ensures ∙ answer-over c.requires _ c.cheapest-cheap.ensures (omega (arith, c.if-number-cap.false))
