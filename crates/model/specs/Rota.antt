-- A rota: n items and m slots, and for each item a word of open slots and a word of callouts. Which tables are accepted as one.
-- A public call passes n for m. Assumes nothing.
use Rattle.std.specs.Prelude.{◌≡◌, Bool, false, not, cond, ◌||◌, List, [], ◌∷◌, ℕ, ◌^◌, ◌≤◌, ◌<◌, eqb, ltb, leb, length, get_or}
use Rattle.words.specs.Word.{minus}
use Rattle.model.specs.Lists.{any}

-- some item has a callout bit where its cell is not open; items beyond either table have none
unfoldable pub stray_callout : List ℕ → List ℕ → Bool
unfolding minus
stray_callout [] callouts = false
stray_callout (w ∷ opens) [] = false
stray_callout (w ∷ opens) (c ∷ callouts) = not (eqb (minus c w) 0) || stray_callout opens callouts

-- refusals 3 and 4 of the words, or 0
unfoldable pub cell_code : ℕ → List ℕ → List ℕ → ℕ
unfolding any stray_callout
cell_code m opens callouts =
    cond (any (λ w. leb (2 ^ m) w) opens) 3
    (cond (stray_callout opens callouts) 4
    0)

-- refusals 1 to 4 of the tables, or 0: the rota is accepted
unfoldable pub table_code : ℕ → ℕ → List ℕ → List ℕ → ℕ
unfolding cell_code
table_code n m opens callouts =
    cond (eqb n 0 || ltb 64 n) 1
    (cond (not (eqb (length opens) n) || not (eqb (length callouts) n)) 2
    (cell_code m opens callouts))

-- an accepted rota, by index
pub record Accepted (n m : ℕ) (opens callouts : List ℕ) : Type 0 where
  pub some_item : 0 < n
  pub few-items : n ≤ 64
  pub open_words : length opens ≡ n
  pub callout-words : length callouts ≡ n
  pub open_range : (i : ℕ) → i < n → get_or opens i 0 < 2 ^ m
  pub callout_open : (i : ℕ) → i < n → minus (get_or callouts i 0) (get_or opens i 0) ≡ 0
