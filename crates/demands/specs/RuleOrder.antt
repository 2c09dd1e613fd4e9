-- The order of the grade's rules: "A rota with 1,000 plans or more and a brittle item fits both [rules 2 and 3], and the price list says brittle
-- comes first. Order the rules 1, 3, 2, 4, 5. The old answers that change are exactly those for rotas that get a grade (5 still refuses the others)
-- with 1,000 plans or more, in which an item has one usable slot: from grade 5 to grade 2, with the price following." The order before stands in this
-- file alone. Assumes nothing.
use Rattle.std.specs.Prelude.{◌≡◌, Bool, cond, List, ℕ, ◌≤◌, eqb, leb}
use Rattle.model.specs.Count.{count}
use Rattle.model.specs.Grade.{some_forced}
use Rattle.demands.specs.Regrading.{OneUsable, Regrading}

-- ---- before

-- rules 1 to 5 in the order of their numbers
unfoldable pub order_before : ℕ → Bool → ℕ
order_before number forced =
    cond (eqb number 1) 1
    (cond (leb 1000 number) 5
    (cond forced 2
    (cond (leb number 23) 3
    4)))

unfoldable pub grade_before : ℕ → List ℕ → ℕ
grade_before n opens = order_before (count n opens) (some_forced n opens)

-- ---- before and now

-- rules 2 and 3 both fit: 1,000 plans or more, and one usable slot left to some item
pub record Overlap (n : ℕ) (opens : List ℕ) : Type 0 where
  pub many : 1000 ≤ count n opens
  pub brittle : OneUsable n opens

pub record RuleOrder : Type 1 where
  -- the answers that change go from grade 5 to 2
  pub five : (n : ℕ) (opens : List ℕ) → Overlap n opens → grade_before n opens ≡ 5
  pub answers : Regrading grade_before Overlap
