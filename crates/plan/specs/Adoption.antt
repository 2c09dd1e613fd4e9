-- What reading a given plan finds. Assumes nothing.
use Rattle.std.specs.Prelude.{◌≡◌, List, ℕ, ◌≤◌, ◌<◌}
use Rattle.augment.specs.Table.{at}

-- the bytes of a plan's record from n on are 0
abbrev pub Zeros : List ℕ → ℕ → Type 0
Zeros p n = (i : ℕ) → n ≤ i → i < 64 → at p i ≡ 0
