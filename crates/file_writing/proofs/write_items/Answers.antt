-- One more item is written, and at the end all are.
use Rattle.std.proofs.Common.{arith, ◌∙◌}
use Rattle.std.proofs.lemmas.Iterator.{YieldsList-from_slice, YieldsList-from_zip}
use Rattle.std.proofs.lemmas.Iterator.Consumers.{YieldsList-turn, YieldsList-end, YieldsList-from_enumerate}
use Rattle.std.proofs.lemmas.List.{length_push}
use Rattle.file_writing.proofs.WrittenBytes.{items_turn, items_end}
use Rattle.file_writing.proofs.write_items.Goals as goal

pub loop-i-preserved : goal.loop-i-preserved
loop-i-preserved c =
    let l = c.loop-i in
    let all = YieldsList-from_enumerate {s = c.into_iter-i-iterator.result}
    (YieldsList-from_zip (YieldsList-from_slice c.args.opens.now (cc)) (YieldsList-from_slice c.args.callouts.now (cc))) (cc) in
    let t = YieldsList-turn all l.yielded _ l.yielded_by _ c.next.new.self (c.in-Some.i, (c.in-Some.w, c.in-Some.c)) c.in-Some.is
    c.next.ensures.steps in
    let r = items_turn _ _ c.requires.0 _ _ _ _ t.0 t.1 l.out _ (omega arith) l.invariant.1 c.write_item.ensures in
    rw length_push (r.0 ∙ l.invariant.0, r.1)

pub returns : goal.returns
returns c =
    let l = c.loop-i in
    let all = YieldsList-from_enumerate {s = c.into_iter-i-iterator.result}
    (YieldsList-from_zip (YieldsList-from_slice c.args.opens.now (cc)) (YieldsList-from_slice c.args.callouts.now (cc))) (cc) in
    let t = YieldsList-end all l.yielded _ l.yielded_by _ c.next.new.self c.in-None.is c.next.ensures.steps in
    items_end _ _ c.requires.0 _ l.out (omega arith) t.1 l.invariant.1
