-- A turn adds the holder of the lowest slot that is left. Assumes nothing.
use Rattle.std.proofs.Common.{◌<◌, rules}
use lib.Pow.{pow-lt}
use Rattle.words.proofs.SetLaws.{or_single}
use Rattle.model.proofs.Walks.{joining_start, joining_turn, joining_end}
use Rattle.maximum.specs.Maximum.{holders}
use Rattle.maximum.proofs.deficient_set.Goals as goal

pub loop-k-init : goal.loop-k-init
loop-k-init c =
    rw c.into_iter-k-iterator.ensures.into_iter_gives
    (joining_start (search rules) (search rules) (search rules) (λ k h b. pow-lt (c.requires k h b)))

pub holder-requires : goal.holder-requires
holder-requires c = let s = c.in-Some.ensures.steps in (joining_turn c.loop-k.invariant s.0 s.1).below

pub with-all-requires : goal.with-all-requires
with-all-requires c =
    let s = c.in-Some.ensures.steps in
    let turn = joining_turn c.loop-k.invariant s.0 s.1 in
    rw c.holder.ensures (c.requires _ turn.below turn.from)

pub loop-k-preserved : goal.loop-k-preserved
loop-k-preserved c =
    let s = c.in-Some.ensures.steps in
    let turn = joining_turn c.loop-k.invariant s.0 s.1 in
    let item : c.holder.result < 64 = rw c.holder.ensures (c.requires _ turn.below turn.from) in
    let same = or_single 64 _ _ c.loop-k.invariant.all-fits item in
    rw (c.with-all.ensures, ← same, s.2, c.holder.ensures) turn.next

pub returns : goal.returns
unfolding holders
returns c = joining_end c.loop-k.invariant c.in-None.ensures.steps.0
