-- A record that is no plan is refused, another is adopted and advanced. Assumes nothing.
use Rattle.std.proofs.Common.{sym, ◌∙◌}
use Rattle.model.specs.Refusal.{number}
use Rattle.model.proofs.Laws.{next_no_plan, next-at}
use Rattle.augment.proofs.Completes.{complete-plan}
use Rattle.next.proofs.next_plan.Goals as goal

pub returns-in_default : goal.returns-in_default
unfolding number
returns-in_default c =
    let none = next_no_plan 64 c.args.opens.now c.requires (λ x h. (c.type_inv.opens x).fits) c.args.given.slots c.in_default.ensures.none in cc

pub returns : goal.returns
returns c =
    rw (sym c.in-Some.ensures.same)
    (c.advance.ensures ∙ sym (next-at 64 _ c.requires (λ x h. (c.type_inv.opens x).fits) _ (complete-plan _ _ _ _ c.in-Some.ensures.complete)))
