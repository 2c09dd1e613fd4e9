-- Which plan uses a cell: "0 with the first plan in dictionary order that holds it, and 0 with the blank plan where none does, which
-- includes a cell whose item or slot is n or above." The numbers, 0 among them, are in demand 1. Assumes nothing.
use Rattle.std.specs.Prelude.{◌≡◌, ◌⊎◌, ◌↔◌, List, ℕ, ◌≤◌, ◌<◌, get_or}
use Rattle.words.specs.Word.{bit}
use Rattle.model.specs.Plans.{blank}
use Rattle.model.specs.CellPlans.{Holds, FirstHolding}
use Rattle.demands.specs.Calls.{EachCell, EachUsable}

pub record UsedCells : Type 1 where
  pub used : EachCell (λ n opens callouts i j r. r.code ≡ 0 → (q : List ℕ) → Holds opens i j q → FirstHolding opens i j r.plan.slots)
  pub unused : EachCell (λ n opens callouts i j r. r.code ≡ 0 → ((q : List ℕ) → Holds opens i j q → ⊥) → r.plan.slots ≡ blank)
  pub outside : EachCell (λ n opens callouts i j r. r.code ≡ 0 → (n ≤ i) ⊎ (n ≤ j) → r.plan.slots ≡ blank)
  pub zeros : EachCell (λ n opens callouts i j r. r.code ≡ 0 → (r.shortage ≡ 0) × (r.items ≡ 0) × (r.callouts ≡ 0))
  -- blank exactly if the cell is not usable: "the n words that the usable table writes"
  pub usable : EachCell (λ n opens callouts i j r. r.code ≡ 0 → i < n → j < n
      → EachUsable (λ n' opens' callouts' old c new. n' ≡ n → opens' ≡ opens → callouts' ≡ callouts → c ≡ 0
      → (r.plan.slots ≡ blank) ↔ (bit (get_or new i 0) j ≡ 0)))
