-- The slots both open and free, worked: 64 items, every slot open to each; item i below 63 holds slot i, item 63 none. Its word is slot
-- 63 alone. Assumes nothing.
use Rattle.std.specs.Prelude.{◌≡◌, List, [], ◌∷◌, ℕ, zero, suc, ◌^◌, ◌<◌, replicate, set}
use Rattle.words.specs.Word.{low}
use Rattle.augment.specs.Table.{Table, Exposed}
use Rattle.augment.specs.Search.{Vacant}

-- n numbers from i on
unfoldable pub ranks : ℕ → ℕ → List ℕ
ranks zero i = []
ranks (suc n) i = i ∷ ranks n (suc i)

abbrev pub all-open : List ℕ
all-open = replicate 64 (low 64)

-- 0 to 62, and 0: the slots of the items, and the owners of the slots
abbrev pub held : List ℕ
held = set (ranks 64 0) 63 0

pub record LastSlot : Type 0 where
  pub table : Table all-open held held (2 ^ 63)
  pub exposed : Exposed held held (2 ^ 63) 63
  pub word : (r : ℕ) → r < 2 ^ 64 → Vacant all-open held held (2 ^ 63) 63 r → r ≡ 2 ^ 63
