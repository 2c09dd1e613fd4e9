-- Which plan uses a cell: the complete plans that hold item i's cell of slot j. Assumes nothing.
use Rattle.std.specs.Prelude.{◌≡◌, ◌⊎◌, Bool, ◌&&◌, List, ℕ, ◌<◌, eqb, ltb, length, get_or}
use Rattle.model.specs.Lists.{keep, Before}
use Rattle.model.specs.Plans.{plans, blank, IsPlan}

-- the plan gives item i, one of n, slot j
unfoldable pub holds : ℕ → ℕ → ℕ → List ℕ → Bool
holds n i j p = ltb i n && eqb (get_or p i 0) j

-- the complete plans that hold the cell, in dictionary order
unfoldable pub cell_plans : ℕ → List ℕ → ℕ → ℕ → List (List ℕ)
unfolding keep holds plans
cell_plans m opens i j = keep (holds (length opens) i j) (plans m opens)

-- the first of them, or the blank plan
unfoldable pub cell_plan : ℕ → List ℕ → ℕ → ℕ → List ℕ
unfolding cell_plans
cell_plan m opens i j = get_or (cell_plans m opens i j) 0 blank

-- by index: p is a complete plan that holds the cell
pub record Holds (opens : List ℕ) (i j : ℕ) (p : List ℕ) : Type 0 where
  pub plan : IsPlan opens p
  pub item : i < length opens
  pub slot : get_or p i 0 ≡ j

-- no other such plan stands before it
pub record FirstHolding (opens : List ℕ) (i j : ℕ) (p : List ℕ) : Type 0 where
  pub held : Holds opens i j p
  pub least : (q : List ℕ) → Holds opens i j q → (q ≡ p) ⊎ Before p q
