-- From document 01's own rules of the grade to those of now, in one step, for customers who come from version 1: rule 3 asked for an item with one
-- open slot, and the rules were tried in the order of their numbers. Assumes nothing.
use Rattle.std.specs.Prelude.{◌≡◌, ◌≢◌, ◌⊎◌, List, [], ◌∷◌, ℕ, ◌≤◌, ◌<◌, length, get_or}
use Rattle.std.specs.Int.Count.{ones}
use Rattle.model.specs.Count.{count}
use Rattle.model.specs.Grade.{rota_grade}
use Rattle.demands.specs.Regrading.{OneUsable, Regrading}
use Rattle.demands.specs.BrittleItems.{some_one_open}
use Rattle.demands.specs.RuleOrder.{order_before}

-- ---- before

unfoldable pub first_grade : ℕ → List ℕ → ℕ
unfolding order_before count some_one_open
first_grade n opens = order_before (count n opens) (some_one_open opens)

-- ---- before and now

-- the rotas whose grade is another: 2 plans or more, one usable slot left to some item, and 1,000 plans or more or more than one slot open to each item
pub record Changed (n : ℕ) (opens : List ℕ) : Type 0 where
  pub some : 2 ≤ count n opens
  pub brittle : OneUsable n opens
  pub unseen : (1000 ≤ count n opens) ⊎ ((i : ℕ) → i < length opens → ones (get_or opens i 0) ≢ 1)

-- "Rota 7, 6, 6 moves from grade 3 to grade 2."
abbrev pub seven : List ℕ
seven = 7 ∷ 6 ∷ 6 ∷ []

pub record FirstRules : Type 1 where
  -- the answers that change go to grade 2: with 1,000 plans or more from grade 5, else from 3 or 4
  pub five : (n : ℕ) (opens : List ℕ) → Changed n opens → 1000 ≤ count n opens → first_grade n opens ≡ 5
  pub three_or_four : (n : ℕ) (opens : List ℕ) → Changed n opens → count n opens ≤ 999 → (first_grade n opens ≡ 3) ⊎ (first_grade n opens ≡ 4)
  pub answers : Regrading first_grade Changed
  pub seven_was : first_grade 3 seven ≡ 3
  pub seven_is : rota_grade 3 seven ≡ 2
