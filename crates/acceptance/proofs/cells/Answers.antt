-- One more word is gathered, and at the end all are.
use Rattle.std.proofs.Common.{length, length-append, arith, rules}
use Rattle.std.proofs.lemmas.Slice.Zip.{zip_turn, zip_end}
use Rattle.acceptance.proofs.CellWords.{faults_more, faults_done}
use Rattle.acceptance.proofs.cells.Goals as goal

pub loop-w-preserved : goal.loop-w-preserved
loop-w-preserved c =
    let i = length c.loop-w.yielded in
    let t =
    zip_turn c.args.opens.now c.args.callouts.now c.loop-w.yielded _ _ c.next.new.self _ (search rules) (search rules) c.loop-w.yielded_by _
    c.in-Some.is c.next.ensures.steps in
    rw (length-append, c.minus-beyond.ensures, c.minus-closed.ensures, c.low-slots.ensures, t.2 0, t.3 0)
    (faults_more c.requires.callouts_len c.loop-w.invariant c.requires.m_bound t.0 (c.type_inv.opens i).fits)

pub returns : goal.returns
returns c =
    let all =
    zip_end c.args.opens.now c.args.callouts.now c.loop-w.yielded _ _ c.next.new.self _ (search rules) (search rules) c.loop-w.yielded_by
    c.in-None.is c.next.ensures.steps in
    faults_done c.requires.callouts_len c.loop-w.invariant (omega (arith, c.requires.callouts_len, all)) c.first_refusal.ensures
