-- The items so far are written.
use Rattle.std.proofs.Common.{◌≡◌, ◌*◌, ◌++◌, length, take, drop}
use Rattle.model.specs.File.{item_bytes}
use Rattle.file_writing.proofs.write_items.Given as goal

abbrev pub invariant-loop-i : goal.invariant-loop-i
invariant-loop-i l =
    let k = length l.yielded in
    (length l.out ≡ length l.fn.out) × (item_bytes l.opens l.callouts ≡ take (16 * k) l.out ++ item_bytes (drop k l.opens) (drop k l.callouts))
