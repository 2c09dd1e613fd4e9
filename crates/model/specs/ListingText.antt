-- The text of a listing: what the listing program of docs/RULES.md writes for the bytes of a rota file. Assumes nothing.
use Rattle.std.specs.Prelude.{cond, ℕ, suc, leb, length, take}
use mathlib.Core.List.{List, [], ◌∷◌, ◌++◌, flat_map}
use Rattle.model.specs.declared.Edition.{Edition}
use Rattle.model.specs.Refusal.{unless}
use Rattle.model.specs.Plans.{plans}
use Rattle.model.specs.Fewest.{callouts_of}
use Rattle.model.specs.Decimal.{decimal}
use Rattle.model.specs.File.{file_code, items_in, slots_in, opens_in, callouts_in}

-- ---- words

-- "refused "
abbrev pub refused_word : List ℕ
refused_word = 114 ∷ 101 ∷ 102 ∷ 117 ∷ 115 ∷ 101 ∷ 100 ∷ 32 ∷ []

-- "rota "
abbrev pub rota_word : List ℕ
rota_word = 114 ∷ 111 ∷ 116 ∷ 97 ∷ 32 ∷ []

-- "end "
abbrev pub end_word : List ℕ
end_word = 101 ∷ 110 ∷ 100 ∷ 32 ∷ []

-- "more "
abbrev pub more_word : List ℕ
more_word = 109 ∷ 111 ∷ 114 ∷ 101 ∷ 32 ∷ []

-- " / "
abbrev pub stroke_word : List ℕ
stroke_word = 32 ∷ 47 ∷ 32 ∷ []

-- ---- lines that are a word and a number

-- a word, a number and the byte 10 that ends every line
unfoldable pub number_line : List ℕ → ℕ → List ℕ
unfolding decimal
number_line word x = word ++ (decimal x ++ (10 ∷ []))

unfoldable pub refused_line : ℕ → List ℕ
unfolding number_line
refused_line = number_line refused_word

unfoldable pub rota_line : ℕ → List ℕ
unfolding number_line
rota_line = number_line rota_word

-- how many plans there are, after "end "; above 1,000 "more 1000"
unfoldable pub last_line : ℕ → List ℕ
unfolding number_line
last_line count = cond (leb count 1000) (number_line end_word count) (number_line more_word 1000)

-- ---- plans

-- a space and a slot
unfoldable pub slot_text : ℕ → List ℕ
unfolding decimal
slot_text j = 32 ∷ decimal j

-- a plan's position, ":", the slots of items 0 upward, as many as callout words, " / ", its callouts
unfoldable pub plan_line : List ℕ → ℕ → List ℕ → List ℕ
unfolding decimal flat_map slot_text number_line callouts_of
plan_line callouts k p =
    decimal k ++ (58 ∷ (flat_map slot_text (take (length callouts) p) ++ number_line stroke_word (callouts_of callouts p)))

-- a line for each plan, from position k on
unfoldable pub plan_lines : List ℕ → ℕ → List (List ℕ) → List ℕ
unfolding plan_line
plan_lines callouts k [] = []
plan_lines callouts k (p ∷ rest) = plan_line callouts k p ++ plan_lines callouts (suc k) rest

-- ---- the listing

-- of a rota of n items, given its plans: no plan is 9; at most 1,000 plans are listed
unfoldable pub listing_of : ℕ → List ℕ → List (List ℕ) → List ℕ
unfolding refused_line rota_line plan_lines last_line
listing_of n callouts [] = refused_line 9
listing_of n callouts (p ∷ rest) = rota_line n ++ (plan_lines callouts 1 (take 1000 (p ∷ rest)) ++ last_line (length (p ∷ rest)))

-- of any bytes as a file: the file's refusal, else the listing of its rota
unfoldable pub listing_text : Edition → List ℕ → List ℕ
unfolding unless refused_line file_code listing_of items_in slots_in opens_in callouts_in plans
listing_text e file = unless refused_line (file_code e file) (listing_of (items_in file) (callouts_in file) (plans (slots_in e file) (opens_in file)))
