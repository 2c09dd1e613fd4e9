-- The words of the first i items are written. Assumes nothing.
use Rattle.std.specs.Prelude.{◌≡◌, ℕ, ◌<◌, length, get_or}
use Rattle.words.specs.Word.{without}
use Rattle.cell.proofs.cut.Given as goal

abbrev pub invariant-loop-i : goal.invariant-loop-i
invariant-loop-i l = record {
  sized : length l.table ≡ 64;
  words : (x : ℕ) → x < l.i → get_or l.table x 0 ≡ without (get_or l.opens x 0) l.slot;
}
