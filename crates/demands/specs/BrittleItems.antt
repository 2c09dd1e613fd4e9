-- Brittle items: "An item is brittle in our trade when one usable slot is left to it, so grade rule 3 shall count usable slots." Rule 3 asked
-- for an item with one open slot before. That reading stands in this file alone: to say which answers are not the same by both, the rules being
-- tried in the order of now. Assumes nothing.
use Rattle.std.specs.Prelude.{◌≡◌, ◌≢◌, ◌⊎◌, Bool, List, ℕ, ◌≤◌, ◌<◌, length, get_or}
use Rattle.std.specs.Int.Count.{ones}
use Rattle.model.specs.Rota.{table_code}
use Rattle.model.specs.Plans.{IsPlan}
use Rattle.model.specs.Allowed.{allowed_word}
use Rattle.model.specs.Count.{count}
use Rattle.model.specs.Grade.{some_single, grade_of}
use Rattle.demands.specs.Calls.{EachGrade}
use Rattle.demands.specs.Regrading.{OneUsable, Regrading}

-- ---- by open slots

-- some item has just one open slot
unfoldable pub some_one_open : List ℕ → Bool
some_one_open opens = some_single opens

unfoldable pub open_grade : ℕ → List ℕ → ℕ
open_grade n opens = grade_of (count n opens) (some_one_open opens)

-- ---- by open slots and by usable ones

-- the rotas whose grade is another: 2 plans or more, one usable slot left to some item, and more than one open to each
pub record Regraded (n : ℕ) (opens : List ℕ) : Type 0 where
  pub some : 2 ≤ count n opens
  pub brittle : OneUsable n opens
  pub more_open : (i : ℕ) → i < length opens → ones (get_or opens i 0) ≢ 1

pub record BrittleItems : Type 1 where
  -- in a rota that has a plan an item with one open slot is brittle
  pub one_open : (n : ℕ) (opens callouts : List ℕ) → table_code n n opens callouts ≡ 0 → (p : List ℕ) → IsPlan opens p
      → (i : ℕ) → i < length opens → ones (get_or opens i 0) ≡ 1 → ones (allowed_word n opens i) ≡ 1
  -- so no rota leaves grade 2
  pub stays : EachGrade (λ n opens callouts tally r new. r.code ≡ 0 → open_grade n opens ≡ 2 → r.grade ≡ 2)
  -- the answers that change go to grade 2: with up to 999 plans from grade 3 or 4, with more from 5
  pub three_or_four : (n : ℕ) (opens : List ℕ) → Regraded n opens → count n opens ≤ 999 → (open_grade n opens ≡ 3) ⊎ (open_grade n opens ≡ 4)
  pub five : (n : ℕ) (opens : List ℕ) → Regraded n opens → 1000 ≤ count n opens → open_grade n opens ≡ 5
  pub answers : Regrading open_grade Regraded
