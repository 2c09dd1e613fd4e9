-- The sheet of a plan for the wall of a yard: a heading and a line for each item, each of 32 bytes. Assumes nothing.
use Rattle.std.specs.Prelude.{◌≡◌, cond, ℕ, ◌<◌, ltb, length, get_or, take, drop, replicate}
use mathlib.Core.List.{List, [], ◌∷◌, ◌++◌, map, flatten}
use Rattle.words.specs.Word.{bit, has}
use Rattle.words.specs.Sum.{below}
use Rattle.model.specs.Decimal.{decimal}

abbrev pub spaces : ℕ → List ℕ
spaces k = replicate k 32

-- a line, by what stands in columns 0 and 1, in columns 6 and 7, and in column 12; column 31 has the line feed, all others have spaces
unfoldable pub line : List ℕ → List ℕ → ℕ → List ℕ
line left middle mark = left ++ (spaces 4 ++ (middle ++ (spaces 4 ++ (mark ∷ (spaces 18 ++ (10 ∷ []))))))

-- the same, column by column
pub record Columns (left middle : List ℕ) (mark : ℕ) (l : List ℕ) : Type 0 where
  pub size : length l ≡ 32
  pub at_0 : take 2 l ≡ left
  pub at_2 : take 4 (drop 2 l) ≡ spaces 4
  pub at_6 : take 2 (drop 6 l) ≡ middle
  pub at_8 : take 4 (drop 8 l) ≡ spaces 4
  pub at_12 : get_or l 12 0 ≡ mark
  pub at_13 : take 18 (drop 13 l) ≡ spaces 18
  pub at_31 : get_or l 31 0 ≡ 10

-- "IT", "SL" and "C"
unfoldable pub heading : List ℕ
unfolding line
heading = line (73 ∷ 84 ∷ []) (83 ∷ 76 ∷ []) 67

-- a number below 100 in two columns, right-aligned: one below 10 has a space before it
unfoldable pub aligned : ℕ → List ℕ
unfolding decimal
aligned x = cond (ltb x 10) (32 ∷ decimal x) (decimal x)

-- "C" if item i's cell in the plan is a callout, else a space
unfoldable pub mark_of : List ℕ → List ℕ → ℕ → ℕ
unfolding has
mark_of callouts p i = cond (has (get_or callouts i 0) (get_or p i 0)) 67 32

-- item i's line: its number, its slot, its mark
unfoldable pub item_line : List ℕ → List ℕ → ℕ → List ℕ
unfolding line aligned mark_of
item_line callouts p i = line (aligned i) (aligned (get_or p i 0)) (mark_of callouts p i)

-- the lines of a plan of n items
unfoldable pub sheet : ℕ → List ℕ → List ℕ → List (List ℕ)
unfolding heading item_line below
sheet n callouts p = heading ∷ map (item_line callouts p) (below n)

-- its bytes, line after line
unfoldable pub sheet_bytes : ℕ → List ℕ → List ℕ → List ℕ
unfolding sheet flatten
sheet_bytes n callouts p = flatten (sheet n callouts p)

-- two plans of n items, each with the callouts of its rota: the callout marks on their cells agree
abbrev pub SameMarks : ℕ → List ℕ → List ℕ → List ℕ → List ℕ → Type 0
SameMarks n callouts p callouts' p' = (i : ℕ) → i < n → bit (get_or callouts i 0) (get_or p i 0) ≡ bit (get_or callouts' i 0) (get_or p' i 0)
