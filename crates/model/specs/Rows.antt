-- Worked rotas of docs/RULES.md, those that document 01 marks P (the grade of 7, 6, 6 is change request 103's), and T's file and listing: tables of
-- equations, which proofs/Rows.antt computes. Assumes nothing.
use Rattle.std.specs.Prelude.{◌≡◌, List, [], ◌∷◌, ◌++◌, map, ℕ, ◌+◌, ◌*◌, length, get_or, take, drop, replicate}
use Rattle.model.specs.declared.Edition.{Edition}
use Rattle.model.specs.declared.Plan.{Plan}
use Rattle.words.specs.Sum.{below}
use Rattle.model.specs.Plans.{plans, blank}
use Rattle.model.specs.Allowed.{allowed_words}
use Rattle.model.specs.Ryser.{set_product, added_terms, taken_terms}
use Rattle.model.specs.File.{file_bytes, file_code, items_in, opens_in, callouts_in}
use Rattle.model.specs.PlanAnswers.{first_answer, next_answer, fewest_answer, cell_answer, given, refused, short, over_cap}
use Rattle.model.specs.CountAnswers.{count_answer, untallied_count}
use Rattle.model.specs.SheetAnswers.{sheet_code, sheet_after}
use Rattle.model.specs.PriceAnswers.{grade_answer, untallied_grade, price_answer, untallied_price}
use Rattle.model.specs.NumberAnswers.{plan_at_answer, plan_at_tally, number_given, number_refused, plan_number_answer, plan_number_tally}
use Rattle.model.specs.ListingText.{listing_text}

abbrev pub T_opens : List ℕ
T_opens = 3 ∷ 7 ∷ 6 ∷ []

abbrev T_callouts : List ℕ
T_callouts = 1 ∷ 0 ∷ 4 ∷ []

-- 7, 6, 6; none
abbrev two_opens : List ℕ
two_opens = 7 ∷ 6 ∷ 6 ∷ []

abbrev none : ℕ → List ℕ
none n = replicate n 0

-- a plan of three items
abbrev slots : ℕ → ℕ → ℕ → List ℕ
slots a b c = a ∷ b ∷ c ∷ replicate 61 0

pub record Rows : Type 0 where
  pub T_plans : plans 3 T_opens ≡ slots 0 1 2 ∷ slots 0 2 1 ∷ slots 1 0 2 ∷ []
  pub T_count : count_answer 3 3 T_opens T_callouts 8 ≡ record { code = 0; count = 3 }
  pub T_cap_1 : fewest_answer 3 3 T_opens T_callouts 1 ≡ given (slots 0 2 1) 1
  pub T_cap_0 : fewest_answer 3 3 T_opens T_callouts 0 ≡ over_cap 1
  pub T_grade : grade_answer 3 3 T_opens T_callouts 8 ≡ record { code = 0; grade = 3; shortage = 0; items = 0 }
  pub T_price : price_answer 3 3 T_opens T_callouts 100 8 ≡ record { code = 0; shortage = 0; items = 0; cents = 285 * 100 + 4500 }
  pub T_cents : ◌≡◌ {A = ℕ} (285 * 100 + 4500) 33000
  pub two_plans : plans 3 two_opens ≡ slots 0 1 2 ∷ slots 0 2 1 ∷ []
  pub two_usable : allowed_words 3 two_opens ≡ 1 ∷ 6 ∷ 6 ∷ []
  -- item 0 is brittle, though three slots are open to it
  pub two_grade : grade_answer 3 3 two_opens (none 3) 8 ≡ record { code = 0; grade = 2; shortage = 0; items = 0 }
  -- 24 plans: no item is brittle; a further item with one open slot, and with five
  pub four_grade : grade_answer 4 4 (15 ∷ 15 ∷ 15 ∷ 15 ∷ []) (none 4) 16 ≡ record { code = 0; grade = 4; shortage = 0; items = 0 }
  pub five-grade : grade_answer 5 5 (16 ∷ 15 ∷ 15 ∷ 15 ∷ 15 ∷ []) (none 5) 32 ≡ record { code = 0; grade = 2; shortage = 0; items = 0 }
  pub five_open_grade : grade_answer 5 5 (31 ∷ 15 ∷ 15 ∷ 15 ∷ 15 ∷ []) (none 5) 32 ≡ record { code = 0; grade = 2; shortage = 0; items = 0 }
  pub short_four : first_answer 4 4 (1 ∷ 1 ∷ 2 ∷ 14 ∷ []) (none 4) ≡ short 1 3
  pub short_two : first_answer 2 2 (0 ∷ 3 ∷ []) (none 2) ≡ short 1 1
  pub one_plan : plans 1 (1 ∷ []) ≡ (0 ∷ replicate 63 0) ∷ []
  pub one_count : count_answer 1 1 (1 ∷ []) (none 1) 2 ≡ record { code = 0; count = 1 }
  pub one_grade : grade_answer 1 1 (1 ∷ []) (none 1) 2 ≡ record { code = 0; grade = 1; shortage = 0; items = 0 }
  pub none-usable : allowed_words 1 (0 ∷ []) ≡ 0 ∷ []
  pub none-count : count_answer 1 1 (0 ∷ []) (none 1) 2 ≡ record { code = 0; count = 0 }
  pub none_first : first_answer 1 1 (0 ∷ []) (none 1) ≡ short 1 1
  pub T_cell : cell_answer 3 3 T_opens T_callouts 1 2 ≡ given (slots 0 2 1) 0
  pub T_cell_shared : cell_answer 3 3 T_opens T_callouts 2 2 ≡ given (slots 0 1 2) 0
  pub T_cell_closed : cell_answer 3 3 T_opens T_callouts 0 2 ≡ given blank 0
  pub T_item-outside : cell_answer 3 3 T_opens T_callouts 3 0 ≡ given blank 0
  pub T_slot-outside : cell_answer 3 3 T_opens T_callouts 0 3 ≡ given blank 0
  pub two_cell-unused : cell_answer 3 3 two_opens (none 3) 0 1 ≡ given blank 0
  -- item and slot are not exchanged
  pub turned_cell : cell_answer 3 3 (2 ∷ 5 ∷ 5 ∷ []) (none 3) 1 2 ≡ given (slots 1 2 0) 0
  pub turned_cell_closed : cell_answer 3 3 (2 ∷ 5 ∷ 5 ∷ []) (none 3) 2 1 ≡ given blank 0
  pub none-cell : cell_answer 1 1 (0 ∷ []) (none 1) 0 0 ≡ given blank 0
  pub T_last : next_answer 3 3 T_opens T_callouts (record { slots = slots 1 0 2 }) ≡ refused 10

-- without a tally
pub record UntalliedRows : Type 0 where
  pub T_count : untallied_count 3 3 T_opens T_callouts ≡ record { code = 0; count = 3 }
  pub T_grade : untallied_grade 3 3 T_opens T_callouts ≡ record { code = 0; grade = 3; shortage = 0; items = 0 }
  pub T_price : untallied_price 3 3 T_opens T_callouts 100 ≡ record { code = 0; shortage = 0; items = 0; cents = 285 * 100 + 4500 }
  pub one_count : untallied_count 1 1 (1 ∷ []) (none 1) ≡ record { code = 0; count = 1 }
  -- no plan: the count is 0, the grade and the price are refused
  pub none-count : untallied_count 1 1 (0 ∷ []) (none 1) ≡ record { code = 0; count = 0 }
  pub none-grade : untallied_grade 1 1 (0 ∷ []) (none 1) ≡ record { code = 9; grade = 0; shortage = 1; items = 1 }
  pub none-price : untallied_price 1 1 (0 ∷ []) (none 1) 1 ≡ record { code = 9; shortage = 1; items = 1; cents = 0 }

-- plans by their numbers
pub record NumberRows : Type 0 where
  pub T_plan_0 : plan_at_answer 3 3 T_opens T_callouts 0 8 ≡ given (slots 0 1 2) 0
  pub T_plan_1 : plan_at_answer 3 3 T_opens T_callouts 1 8 ≡ given (slots 0 2 1) 0
  pub T_plan_2 : plan_at_answer 3 3 T_opens T_callouts 2 8 ≡ given (slots 1 0 2) 0
  pub T_plan_3 : plan_at_answer 3 3 T_opens T_callouts 3 8 ≡ refused 16
  pub T_number_0 : plan_number_answer 3 3 T_opens T_callouts (record { slots = slots 0 1 2 }) 8 ≡ number_given 0
  pub T_number_2 : plan_number_answer 3 3 T_opens T_callouts (record { slots = slots 1 0 2 }) 8 ≡ number_given 2
  pub T_no_plan : plan_number_answer 3 3 T_opens T_callouts (record { slots = slots 2 0 1 }) 8 ≡ number_refused 8
  -- item 2 alone may have slots 1 and 2; items 1 and 2 share 0 and 1 in one way, 1 and 2 in two
  pub T_tally : plan_at_tally 3 3 T_opens T_callouts 2 (none 9) ≡ 1 ∷ 0 ∷ 1 ∷ 1 ∷ 1 ∷ 1 ∷ 2 ∷ 3 ∷ 0 ∷ []
  pub T_number_tally : plan_number_tally 3 3 T_opens T_callouts (record { slots = slots 1 0 2 }) (none 8) ≡ 1 ∷ 0 ∷ 1 ∷ 1 ∷ 1 ∷ 1 ∷ 2 ∷ 3 ∷ []
  pub T_kept : plan_at_tally 3 3 T_opens T_callouts 3 (none 8) ≡ none 8
  pub T_number-kept : plan_number_tally 3 3 T_opens T_callouts (record { slots = slots 2 0 1 }) (none 8) ≡ none 8
  -- a tally of 7 words: 6 comes before 16 and 8
  pub T_short : plan_at_answer 3 3 T_opens T_callouts 3 7 ≡ refused 6
  pub T_number-short : plan_number_answer 3 3 T_opens T_callouts (record { slots = slots 2 0 1 }) 7 ≡ number_refused 6
  -- no plan: no number
  pub none-plan : plan_at_answer 1 1 (0 ∷ []) (none 1) 0 2 ≡ refused 16
  pub one_plan : plan_at_answer 1 1 (1 ∷ []) (none 1) 0 2 ≡ given (0 ∷ replicate 63 0) 0

-- T's file is one block, its check 338: byte 510 is 82 and byte 511 is 1; and back
pub record File : Type 0 where
  pub size : length (file_bytes Edition.One 3 3 T_opens T_callouts) ≡ 512
  pub check_low : get_or (file_bytes Edition.One 3 3 T_opens T_callouts) 510 0 ≡ 82
  pub check_high : get_or (file_bytes Edition.One 3 3 T_opens T_callouts) 511 0 ≡ 1
  pub header : take 14 (file_bytes Edition.One 3 3 T_opens T_callouts) ≡ 82 ∷ 79 ∷ 84 ∷ 65 ∷ 1 ∷ 3 ∷ 0 ∷ 3 ∷ replicate 6 0
  pub item_0 : take 16 (drop 14 (file_bytes Edition.One 3 3 T_opens T_callouts)) ≡ (3 ∷ replicate 7 0) ++ (1 ∷ replicate 7 0)
  pub accepted : file_code Edition.One (file_bytes Edition.One 3 3 T_opens T_callouts) ≡ 0
  pub items : items_in (file_bytes Edition.One 3 3 T_opens T_callouts) ≡ 3
  pub opens : opens_in (file_bytes Edition.One 3 3 T_opens T_callouts) ≡ T_opens
  pub callouts : callouts_in (file_bytes Edition.One 3 3 T_opens T_callouts) ≡ T_callouts

-- the listing of T's file, line by line; of a rota with no plan; of no bytes
pub record Listings : Type 0 where
  pub T_listing : listing_text Edition.One (file_bytes Edition.One 3 3 T_opens T_callouts)
      ≡ (114 ∷ 111 ∷ 116 ∷ 97 ∷ 32 ∷ 51 ∷ 10 ∷ [])
      ++ (49 ∷ 58 ∷ 32 ∷ 48 ∷ 32 ∷ 49 ∷ 32 ∷ 50 ∷ 32 ∷ 47 ∷ 32 ∷ 50 ∷ 10 ∷ [])
      ++ (50 ∷ 58 ∷ 32 ∷ 48 ∷ 32 ∷ 50 ∷ 32 ∷ 49 ∷ 32 ∷ 47 ∷ 32 ∷ 49 ∷ 10 ∷ [])
      ++ (51 ∷ 58 ∷ 32 ∷ 49 ∷ 32 ∷ 48 ∷ 32 ∷ 50 ∷ 32 ∷ 47 ∷ 32 ∷ 49 ∷ 10 ∷ [])
      ++ (101 ∷ 110 ∷ 100 ∷ 32 ∷ 51 ∷ 10 ∷ [])
  pub no-plan : listing_text Edition.One (file_bytes Edition.One 2 2 (0 ∷ 3 ∷ []) (none 2)) ≡ (114 ∷ 101 ∷ 102 ∷ 117 ∷ 115 ∷ 101 ∷ 100 ∷ 32 ∷ 57 ∷ 10 ∷ [])
  pub no_bytes : listing_text Edition.One [] ≡ (114 ∷ 101 ∷ 102 ∷ 117 ∷ 115 ∷ 101 ∷ 100 ∷ 32 ∷ 49 ∷ 50 ∷ 10 ∷ [])

-- a line of a sheet, from what stands in columns 0, 1, 6, 7 and 12
abbrev printed : ℕ → ℕ → ℕ → ℕ → ℕ → List ℕ
printed a b c d mark = (a ∷ b ∷ replicate 4 32) ++ (c ∷ d ∷ replicate 4 32) ++ (mark ∷ replicate 18 32) ++ (10 ∷ [])

abbrev T_plan : Plan
T_plan = record { slots = slots 0 2 1 }

-- T's sheet for plan 0 2 1, in a page of one byte more; a page of one byte less; a record that is no plan, and such a page too
pub record Sheets : Type 0 where
  pub T_sheet : sheet_after 3 3 T_opens T_callouts T_plan (replicate 129 7)
      ≡ printed 73 84 83 76 67 ++ printed 32 48 32 48 67 ++ printed 32 49 32 50 32 ++ printed 32 50 32 49 32 ++ (7 ∷ [])
  pub T_room : sheet_code 3 3 T_opens T_callouts T_plan 128 ≡ 0
  pub T_no_room : sheet_code 3 3 T_opens T_callouts T_plan 127 ≡ 15
  pub T_other : sheet_code 3 3 T_opens T_callouts (record { slots = slots 2 0 1 }) 128 ≡ 8
  pub T_room-first : sheet_code 3 3 T_opens T_callouts (record { slots = slots 2 0 1 }) 127 ≡ 15
  pub T_tables-first : sheet_code 3 3 T_opens (4 ∷ 0 ∷ 4 ∷ []) T_plan 127 ≡ 4
  pub T_kept : sheet_after 3 3 T_opens T_callouts (record { slots = slots 2 0 1 }) (replicate 129 7) ≡ replicate 129 7

-- Ryser's formula: T's products, of the sets 0 to 7 as words, and its two sums; one item, where the set without a slot is taken off; no item
pub record Formula : Type 0 where
  pub T_products : map (set_product T_opens) (below 8) ≡ 0 ∷ 0 ∷ 1 ∷ 4 ∷ 0 ∷ 2 ∷ 4 ∷ 12 ∷ []
  pub T_added : added_terms 3 T_opens ≡ 12 + 1
  pub T_taken : taken_terms 3 T_opens ≡ 4 + 2 + 4
  pub one_added : added_terms 1 (1 ∷ []) ≡ 1
  pub one_taken : taken_terms 1 (1 ∷ []) ≡ 0
  pub none_added : added_terms 1 (0 ∷ []) ≡ 0
  pub nobody_added : added_terms 0 [] ≡ 1
  pub nobody_taken : taken_terms 0 [] ≡ 0
