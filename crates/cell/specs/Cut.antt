-- An open cell, and the open words whose plans are those that hold it. w the open words, r the cut ones. Assumes nothing.
use Rattle.std.specs.Prelude.{◌≡◌, ◌≢◌, List, ℕ, ◌^◌, ◌≤◌, ◌<◌, length, get_or}
use Rattle.words.specs.Word.{bit, without}

-- slot j is open to item i
pub record OpenCell (w : List ℕ) (i j : ℕ) : Type 0 where
  pub few : length w ≤ 64
  pub item : i < length w
  pub slot : j < 64
  pub may : bit (get_or w i 0) j ≡ 1

pub record Cut (w : List ℕ) (i j : ℕ) (r : List ℕ) : Type 0 where
  pub sized : length r ≡ 64
  pub own : get_or r i 0 ≡ 2 ^ j
  pub others : (x : ℕ) → x < length w → x ≢ i → get_or r x 0 ≡ without (get_or w x 0) j
