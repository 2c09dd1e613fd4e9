-- What the call for a plan's sheet answers and writes. Assumes nothing.
use Rattle.std.specs.Prelude.{List, ℕ, ◌+◌, ◌*◌, length}
use Rattle.model.specs.declared.Plan.{Plan}
use Rattle.model.specs.Refusal.{or_else, written, room_code, plan_code}
use Rattle.model.specs.Rota.{table_code}
use Rattle.model.specs.Plans.{is_plan}
use Rattle.model.specs.Sheet.{sheet_bytes}

-- for a lent page of so many bytes
unfoldable pub sheet_code : ℕ → ℕ → List ℕ → List ℕ → Plan → ℕ → ℕ
unfolding or_else table_code is_plan
sheet_code n m opens callouts g places =
    or_else (table_code n m opens callouts) (or_else (room_code places ((n + 1) * 32)) (plan_code (is_plan m opens g.slots)))

-- the lent page afterwards
unfoldable pub sheet_after : ℕ → ℕ → List ℕ → List ℕ → Plan → List ℕ → List ℕ
unfolding written sheet_code sheet_bytes
sheet_after n m opens callouts g old = written (sheet_code n m opens callouts g (length old)) (sheet_bytes n callouts g.slots) old
