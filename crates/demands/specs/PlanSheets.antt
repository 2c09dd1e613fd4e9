-- The plan sheet: "The heading has `IT` in columns 0–1, `SL` in 6–7 and `C` in 12. Then each item has a line: its number in columns 0–1
-- and its slot in 6–7, both right-aligned, and `C` in column 12 for a callout. All else is spaces." And: "Two complete plans, of rotas of
-- equal n, print the same sheet only if their slots and the callout marks on their cells agree." The numbers are in demand 1. Assumes nothing.
use Rattle.std.specs.Prelude.{◌≡◌, ◌↔◌, [], ◌∷◌, ℕ, ◌+◌, ◌*◌, ◌<◌, get_or, take, drop}
use Rattle.model.specs.Plans.{IsPlan}
use Rattle.model.specs.Sheet.{Columns, aligned, mark_of, SameMarks}
use Rattle.demands.specs.Calls.{EachSheet}

pub record PlanSheets : Type 1 where
  pub heading : EachSheet (λ n opens callouts g old r new. r ≡ 0 → Columns (73 ∷ 84 ∷ []) (83 ∷ 76 ∷ []) 67 (take 32 new))
  -- item i's line stands below the heading and i lines
  pub lines : EachSheet (λ n opens callouts g old r new. r ≡ 0 → (i : ℕ) → i < n
      → Columns (aligned i) (aligned (get_or g.slots i 0)) (mark_of callouts g.slots i) (take 32 (drop ((i + 1) * 32) new)))
  pub further : EachSheet (λ n opens callouts g old r new. r ≡ 0 → drop ((n + 1) * 32) new ≡ drop ((n + 1) * 32) old)
  -- the given record is a complete plan, and two of them print the same sheet exactly if slots and marks agree
  pub complete : EachSheet (λ n opens callouts g old r new. r ≡ 0 → IsPlan opens g.slots)
  pub same : EachSheet (λ n opens callouts g old r new. r ≡ 0 → EachSheet (λ n' opens' callouts' g' old' r' new'. n' ≡ n → r' ≡ 0
      → (take ((n + 1) * 32) new ≡ take ((n + 1) * 32) new') ↔ ((g.slots ≡ g'.slots) × SameMarks n callouts g.slots callouts' g'.slots)))
