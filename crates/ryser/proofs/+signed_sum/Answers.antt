-- `ryser::signed_sum` meets its contract. Assumes nothing.
use Rattle.std.proofs.Common.{sym, ◌∙◌, arith}
use Rattle.ryser.proofs.LeavingOut.{words, few-slots, within, left_out, nothing_left, partly_start, partly_turn}
use Rattle.ryser.proofs.+signed_sum.Goals as goal
use Rattle.ryser.proofs.+signed_sum.Goals.{then-full, else-full}

pub term-sum-requires : goal.term-sum-requires
term-sum-requires t c = words c.requires

pub loop-k-init : goal.loop-k-init
loop-k-init t c = record { slots = few-slots c.requires; turns = partly_start _ _ _ c.term-sum.ensures }

pub minus-rest-requires : goal.minus-rest-requires
minus-rest-requires t c = within c.requires c.loop-k.k c.loop-k-test.true

pub full-requires : goal.full-requires
full-requires t c = rw c.minus-rest.ensures (words (left_out c.requires c.loop-k.k c.loop-k-test.true))

pub signed_sum-sum-requires : goal.signed_sum-sum-requires
signed_sum-sum-requires t c = (omega arith, rw c.minus-rest.ensures (left_out c.requires c.loop-k.k c.loop-k-test.true))

pub loop-k-preserved : goal.loop-k-preserved
loop-k-preserved t c =
    let turn = partly_turn c.loop-k.invariant.turns c.loop-k-test.true in
    record {
      slots = c.loop-k.invariant.slots;
      turns = elim c.if-full.branch [
        | then-full w ↦ turn _ _ (rw c.minus-rest.ensures at w.signed_sum-sum.ensures) (omega (arith, w.sum-is))
        | else-full w ↦
            turn _ 0 (nothing_left _ _ _ (rw c.minus-rest.ensures at (sym c.full.ensures ∙ w.if-full.false))) (omega (arith, w.sum-is))
      ];
    }
