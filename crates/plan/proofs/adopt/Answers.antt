-- An item takes the slot of its byte, or the record is no plan. Assumes nothing.
use Rattle.std.proofs.Common.{arith, rules, sym, ◌∙◌}
use Rattle.plan.proofs.Adopts.{adopting_start, adopting_below, adopting_turn, adopting_end}
use Rattle.plan.proofs.adopt.Goals.{then-s-ge64-via-then-s-ge64, then-s-ge64-via-else-s-ge64+then-not-has}
use Rattle.plan.proofs.adopt.Goals as goal

pub loop-i-init : goal.loop-i-init
loop-i-init c = rw c.empty-m.ensures (adopting_start c.requires (λ x h. (c.type_inv.opens x).fits))

pub returns-then-s-ge64-clause-none : goal.returns-then-s-ge64-clause-none
returns-then-s-ge64-clause-none c P = elim c.then-s-ge64.branch [
  | then-s-ge64-via-then-s-ge64 w ↦ omega (arith, adopting_below c.loop-i.invariant c.loop-i-test.true c.from-s.ensures P, w.if-s-ge64.true)
  | then-s-ge64-via-else-s-ge64+then-not-has w ↦
      (adopting_turn c.loop-i.invariant c.loop-i-test.true c.from-s.ensures w.vacant.ensures).vacant P (sym w.has.ensures ∙ w.if-not-has.true)
]

pub take-requires : goal.take-requires
take-requires c =
    (adopting_turn c.loop-i.invariant c.loop-i-test.true c.from-s.ensures c.vacant.ensures).takeable
    c.if-s-ge64.false
    (sym c.has.ensures ∙ c.if-not-has.false)

pub returns-clause-same : goal.returns-clause-same
returns-clause-same c = (adopting_end c.loop-i.invariant (omega arith) (search rules) (search rules)).1
