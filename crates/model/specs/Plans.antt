-- The complete plans of a rota (the perfect matchings), as a list in dictionary order and as a property by index.
-- Assumes nothing.
use Rattle.std.specs.Prelude.{◌≡◌, Bool, true, false, ◌&&◌, ℕ, zero, suc, ◌-◌, ◌≤◌, ◌<◌, length, get_or, replicate}
use mathlib.Core.List.{List, [], ◌∷◌, ◌++◌, map, flat_map}
use Rattle.words.specs.Word.{bit, has}
use Rattle.words.specs.Sum.{below}
use Rattle.model.specs.Lists.{keep, any, remove, same, before}

-- the lists of k of the slots, none twice; in dictionary order where the slots rise
unfoldable pub arrangements : ℕ → List ℕ → List (List ℕ)
unfolding remove flat_map
arrangements zero slots = [] ∷ []
arrangements (suc k) slots = flat_map (λ s. map (s ∷◌) (arrangements k (remove s slots))) slots

-- there is a slot for each item, and each of the cells is open
unfoldable pub cells_open : List ℕ → List ℕ → Bool
unfolding has
cells_open [] [] = true
cells_open [] (s ∷ p) = false
cells_open (w ∷ opens) [] = false
cells_open (w ∷ opens) (s ∷ p) = has w s && cells_open opens p

-- the ways to give the items k of the slots, each item an open one, no slot twice; none unless there are k items
unfoldable pub matchings : List ℕ → ℕ → List ℕ → List (List ℕ)
unfolding keep cells_open arrangements
matchings opens k slots = keep (cells_open opens) (arrangements k slots)

-- a plan's record of 64 bytes: byte i is item i's slot, bytes from n on are 0
unfoldable pub padded : List ℕ → List ℕ
padded p = p ++ replicate (64 - length p) 0

-- the blank plan
abbrev pub blank : List ℕ
blank = replicate 64 255

-- the complete plans of a rota with m slots, each as its record, in dictionary order
unfoldable pub plans : ℕ → List ℕ → List (List ℕ)
unfolding padded matchings below
plans m opens = map padded (matchings opens (length opens) (below m))

-- p is a complete plan
unfoldable pub is_plan : ℕ → List ℕ → List ℕ → Bool
unfolding any same plans
is_plan m opens p = any (same p) (plans m opens)

-- the complete plans after p
unfoldable pub plans_after : ℕ → List ℕ → List ℕ → List (List ℕ)
unfolding keep before plans
plans_after m opens p = keep (before p) (plans m opens)

-- A complete plan by index: each item has one open cell, no slot twice, and the bytes from n on are 0. In an accepted rota
-- an open cell's slot is below m, so m is not needed.
pub record IsPlan (opens p : List ℕ) : Type 0 where
  pub sized : length p ≡ 64
  pub open_cell : (i : ℕ) → i < length opens → bit (get_or opens i 0) (get_or p i 0) ≡ 1
  pub once : (i k : ℕ) → i < length opens → k < length opens → get_or p i 0 ≡ get_or p k 0 → i ≡ k
  pub zeros : (i : ℕ) → length opens ≤ i → i < 64 → get_or p i 0 ≡ 0
