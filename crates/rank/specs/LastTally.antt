-- The tables of a walk. Assumes nothing.
use Rattle.std.specs.Prelude.{◌≡◌, List, ℕ, ◌^◌, ◌≤◌, ◌<◌, length, get_or}
use Rattle.model.specs.Count.{last_count}

-- the tally has the word of every set of slots, for the last items
pub record LastTally (opens tally : List ℕ) : Type 0 where
  pub few : length opens ≤ 20
  pub words : 2 ^ length opens ≤ length tally
  pub counts : (set : ℕ) → set < 2 ^ length opens → get_or tally set 0 ≡ last_count (length opens) opens set

-- no slot is open beyond as many as there are items
abbrev pub Square : List ℕ → Type 0
Square opens = (i : ℕ) → i < length opens → get_or opens i 0 < 2 ^ length opens
