-- The refusal numbers of docs/RULES.md, each with when it is given. Assumes nothing.
use Rattle.std.specs.Prelude.{◌≡◌, ◌≢◌, ◌⊎◌, true, false, List, [], ◌∷◌, ℕ, ◌^◌, ◌≤◌, ◌<◌, length, get_or}
use Rattle.words.specs.Word.{bit}
use Rattle.model.specs.Lists.{any, Before}
use Rattle.model.specs.Plans.{IsPlan}
use Rattle.model.specs.Fewest.{callouts_of}
use Rattle.model.specs.Count.{permanent}
use Rattle.model.specs.declared.Edition.{Edition}
use Rattle.model.specs.File.{blocks_in, items_in, opens_in, callouts_in, check_wrong, laid_out}

pub record Test : Type 1 where
  pub number : ℕ
  pub given_when : Type 0

-- the code is the number of the first test that fits, 0 where none does
unfoldable pub FirstOf : List Test → ℕ → Type 0
FirstOf [] code = code ≡ 0
FirstOf (t ∷ tests) code = (t.given_when × (code ≡ t.number)) ⊎ ((t.given_when → ⊥) × FirstOf tests code)

-- n is 0 or above 64
abbrev pub test1 : ℕ → Test
test1 n = record { number = 1; given_when = (n ≡ 0) ⊎ (64 < n) }

-- the open or callout table has other than n words
abbrev pub test2 : ℕ → List ℕ → List ℕ → Test
test2 n opens callouts = record { number = 2; given_when = (length opens ≢ n) ⊎ (length callouts ≢ n) }

-- an open bit at slot n or above
abbrev pub test3 : ℕ → List ℕ → Test
test3 n opens = record { number = 3; given_when = (i : ℕ) × (j : ℕ) × (i < length opens) × (n ≤ j) × (bit (get_or opens i 0) j ≡ 1) }

-- a callout bit where the cell is not open
abbrev pub test4 : List ℕ → List ℕ → Test
test4 opens callouts =
    record { number = 4; given_when = (i : ℕ) × (j : ℕ) × (i < length opens) × (j < 64) × (bit (get_or callouts i 0) j ≡ 1) × (bit (get_or opens i 0) j ≡ 0) }

-- n above 20
abbrev pub test5 : ℕ → Test
test5 n = record { number = 5; given_when = 20 < n }

-- the tally has fewer than 2 to the power n words
abbrev pub test6 : ℕ → List ℕ → Test
test6 n tally = record { number = 6; given_when = length tally < 2 ^ n }

-- vehicles are 0 or above 10,000
abbrev pub test7 : ℕ → Test
test7 vehicles = record { number = 7; given_when = (vehicles ≡ 0) ⊎ (10000 < vehicles) }

-- the given plan is no complete plan of this rota
abbrev pub test8 : List ℕ → List ℕ → Test
test8 opens given = record { number = 8; given_when = IsPlan opens given → ⊥ }

-- no complete plan exists
abbrev pub test9 : List ℕ → Test
test9 opens = record { number = 9; given_when = (p : List ℕ) → IsPlan opens p → ⊥ }

-- no complete plan follows the given one
abbrev pub test10 : List ℕ → List ℕ → Test
test10 opens given = record { number = 10; given_when = (p : List ℕ) → IsPlan opens p → Before given p → ⊥ }

-- the fewest callouts exceed the cap
abbrev pub test11 : List ℕ → List ℕ → ℕ → Test
test11 opens callouts cap = record { number = 11; given_when = (p : List ℕ) → IsPlan opens p → cap < callouts_of callouts p }

-- file length is not 512, 1,024 or 1,536
abbrev pub test12 : List ℕ → Test
test12 file = record { number = 12; given_when = (length file ≢ 512) × (length file ≢ 1024) × (length file ≢ 1536) }

-- a block's check is wrong
abbrev pub test13 : List ℕ → Test
test13 file = record { number = 13; given_when = any (check_wrong Edition.One) (blocks_in file) ≡ true }

-- a byte is not as edition 1 lays it out, n is not 1 to 64, or the blocks are not as many as n needs
abbrev pub test14 : List ℕ → Test
test14 file = record { number = 14; given_when = laid_out Edition.One (items_in file) (items_in file) (blocks_in file) ≡ false }

-- a lent output is shorter than what is to be written
abbrev pub test15 : List ℕ → ℕ → Test
test15 output wanted = record { number = 15; given_when = length output < wanted }

-- k is not below the count, which is the permanent
abbrev pub test16 : ℕ → List ℕ → ℕ → Test
test16 n opens k = record { number = 16; given_when = permanent n opens ≤ k }

-- of tables, then others: "Calls on tables test by rising number, but 15 right after 4"
abbrev pub tables : ℕ → List ℕ → List ℕ → List Test → List Test
tables n opens callouts others = test1 n ∷ test2 n opens callouts ∷ test3 n opens ∷ test4 opens callouts ∷ others

-- of a file, then others: "Calls on a file test 12, 13, 14, 3, 4, 15, then as above"
abbrev pub file_tests : List ℕ → List Test → List Test
file_tests file others = test12 file ∷ test13 file ∷ test14 file ∷ test3 (items_in file) (opens_in file) ∷ test4 (opens_in file) (callouts_in file) ∷ others
