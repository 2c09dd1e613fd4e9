-- Refused by the tables or for room, or the allowed words are stored. Assumes nothing.
use Rattle.std.proofs.Common.{sym}
use Rattle.std.proofs.Math.Seq.{length-take-le}
use Rattle.rota.proofs.TableCalls.{passes, few-items, enough, usable-refused, usable-short, usable_done}
use Rattle.rota.proofs.usable.rota_usable_slots.Goals as goal

pub returns-in-Err : goal.returns-in-Err
returns-in-Err c = usable-refused _ _ _ _ _ _ c.in-Err.ensures c.number.ensures

pub returns-then-usable-n : goal.returns-then-usable-n
returns-then-usable-n c = usable-short _ _ _ _ _ (passes c.in_default.ensures) c.if-usable-n.true c.number-then-usable-n.ensures

pub allowed_slots-allowed-requires : goal.allowed_slots-allowed-requires
allowed_slots-allowed-requires c = few-items (passes c.in_default.ensures)

pub slice_bounds-allowed-end : goal.slice_bounds-allowed-end
slice_bounds-allowed-end c = enough (passes c.in_default.ensures) c.allowed_slots-allowed.ensures

pub slice_bounds-store-end : goal.slice_bounds-store-end
slice_bounds-store-end c = sym (length-take-le _ _ (enough (passes c.in_default.ensures) c.allowed_slots-allowed.ensures))

pub returns : goal.returns
returns c = usable_done _ _ _ _ _ (passes c.in_default.ensures) c.allowed_slots-allowed.ensures c.if-usable-n.false c.store.ensures
