-- A maximum matching that serves every item is a complete table, any other shows that there is no plan. Assumes nothing.
use Rattle.maximum.proofs.Filling.{all-fillable}
use Rattle.maximum.proofs.Deficient.{exposed_no_plan, none-exposed-complete}
use Rattle.components.proofs.Finishes.{none_allowed}
use Rattle.components.proofs.allowed_slots.Goals as goal

pub fill-left-requires : goal.fill-left-requires
fill-left-requires c =
    rw c.empty-m.ensures (all-fillable _ c.requires (λ x h. (c.type_inv.opens x).fits) _ c.low.ensures)

pub returns-then-left-ne0 : goal.returns-then-left-ne0
returns-then-left-ne0 c =
    none_allowed c.requires (λ x h. (c.type_inv.opens x).fits) (exposed_no_plan _ _ _ _ _ _ c.fill-left.ensures c.if-left-ne0.true)

pub allowed_words-requires : goal.allowed_words-requires
allowed_words-requires c = record { slot = _; complete = none-exposed-complete _ _ _ _ _ _ c.fill-left.ensures c.if-left-ne0.false }
