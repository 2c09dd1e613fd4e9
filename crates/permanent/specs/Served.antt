-- What `subset_count` adds up. Assumes nothing.
use Rattle.std.specs.Prelude.{List, ℕ, ◌*◌, get_or}
use Rattle.words.specs.Word.{bit, without}
use Rattle.words.specs.Sum.{sum}

-- over the slots of the set that are in `opened`: the word of the set without that slot
unfoldable pub served : ℕ → List ℕ → ℕ → ℕ
unfolding sum bit without
served opened counts set = sum (λ j. bit set j * (bit opened j * get_or counts (without set j) 0)) 64
