-- What the call for the usable table answers and writes. The usable slots of docs/RULES.md are the allowed ones. Assumes nothing.
use Rattle.std.specs.Prelude.{List, ℕ, length}
use Rattle.model.specs.Refusal.{or_else, written, room_code}
use Rattle.model.specs.Rota.{table_code}
use Rattle.model.specs.Allowed.{allowed_words}

-- for a lent table of so many words
unfoldable pub usable_code : ℕ → ℕ → List ℕ → List ℕ → ℕ → ℕ
unfolding or_else table_code
usable_code n m opens callouts places = or_else (table_code n m opens callouts) (room_code places n)

-- the lent table afterwards
unfoldable pub usable_after : ℕ → ℕ → List ℕ → List ℕ → List ℕ → List ℕ
unfolding written usable_code allowed_words
usable_after n m opens callouts old = written (usable_code n m opens callouts (length old)) (allowed_words m opens) old
