-- The slots that the next plan's search tries. Assumes nothing.
use Rattle.std.specs.Prelude.{List, ℕ, ◌+◌, get_or}
use Rattle.words.specs.Word.{minus, low}
use Rattle.augment.specs.Table.{at}

-- the open slots of item x above its own
abbrev pub above : List ℕ → List ℕ → ℕ → ℕ
above w p x = minus (get_or w x 0) (low (at p x + 1))
