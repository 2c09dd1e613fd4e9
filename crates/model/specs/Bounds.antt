-- The definitions at the bounds of the rules (docs/RULES.md), computed in proofs/Bounds.antt. Assumes nothing.
use Rattle.std.specs.Prelude.{◌≡◌, true, false, [], ◌∷◌, ◌^◌, ◌-◌, length, replicate}
use Rattle.model.specs.declared.Edition.{Edition}
use Rattle.model.specs.Rota.{table_code}
use Rattle.model.specs.Grade.{grade_of, rate}
use Rattle.model.specs.File.{blocks_for, file_code}
use Rattle.model.specs.Refusal.{number_code, fleet_code, room_code}
use Rattle.model.specs.Plans.{blank}
use Rattle.model.specs.PlanAnswers.{refused}
use Rattle.model.specs.NumberAnswers.{plan_at_answer, number_refused, plan_number_answer}
use Rattle.model.specs.CountAnswers.{sized_code, untallied_count, count_code}
use Rattle.model.specs.PriceAnswers.{untallied_price_code}
use Rattle.model.specs.Decimal.{decimal}
use Rattle.model.specs.Sheet.{aligned, mark_of}
use Rattle.model.specs.ListingText.{last_line, listing_of}

-- acceptance, and what count, grade and price add
pub record Codes : Type 0 where
  pub no_item : table_code 0 0 [] [] ≡ 1
  pub most_items : table_code 64 64 (replicate 64 (2 ^ 64 - 1)) (replicate 64 (2 ^ 64 - 1)) ≡ 0
  pub too_many : table_code 65 65 (replicate 65 1) (replicate 65 0) ≡ 1
  pub short-opens : table_code 2 2 (1 ∷ []) (0 ∷ 0 ∷ []) ≡ 2
  pub long_callouts : table_code 2 2 (1 ∷ 2 ∷ []) (0 ∷ 0 ∷ 0 ∷ []) ≡ 2
  pub last_slot : table_code 63 63 (replicate 63 (2 ^ 62)) (replicate 63 0) ≡ 0
  pub slot-above : table_code 63 63 (2 ^ 63 ∷ replicate 62 0) (replicate 63 0) ≡ 3
  pub three_first : table_code 2 2 (1 ∷ 4 ∷ []) (2 ∷ 0 ∷ []) ≡ 3
  pub stray : table_code 2 2 (1 ∷ 3 ∷ []) (0 ∷ 4 ∷ []) ≡ 4
  pub twenty : count_code 20 20 (replicate 20 1) (replicate 20 0) (2 ^ 20) ≡ 0
  pub twenty_one : count_code 21 21 (replicate 21 1) (replicate 21 0) 0 ≡ 5
  pub untallied_twenty : sized_code 20 20 (replicate 20 1) (replicate 20 0) ≡ 0
  pub untallied_twenty_one : untallied_count 21 21 (replicate 21 1) (replicate 21 0) ≡ record { code = 5; count = 0 }
  pub untallied_five-first : untallied_price_code 21 21 (replicate 21 1) (replicate 21 0) 0 ≡ 5
  pub untallied_no_vehicle : untallied_price_code 20 20 (replicate 20 1) (replicate 20 0) 0 ≡ 7
  pub small_tally : count_code 20 20 (replicate 20 1) (replicate 20 0) (2 ^ 20 - 1) ≡ 6
  pub plan-at-twenty_one : plan_at_answer 21 21 (replicate 21 1) (replicate 21 0) 0 0 ≡ refused 5
  pub plan-number-twenty_one : plan_number_answer 21 21 (replicate 21 1) (replicate 21 0) (record { slots = blank }) 0 ≡ number_refused 5
  pub last_number : number_code 2 3 ≡ 0
  pub no_such_number : number_code 3 3 ≡ 16
  pub no_number : number_code 0 0 ≡ 16
  pub no_vehicle : fleet_code 0 ≡ 7
  pub one_vehicle : fleet_code 1 ≡ 0
  pub most_vehicles : fleet_code 10000 ≡ 0
  pub too_many_vehicles : fleet_code 10001 ≡ 7
  pub room : room_code 3 3 ≡ 0
  pub no_room : room_code 2 3 ≡ 15
  pub no_file : file_code Edition.One [] ≡ 12
  pub short-file : file_code Edition.One (replicate 511 0) ≡ 12
  pub long_file : file_code Edition.One (replicate 2048 0) ≡ 12
  pub zero-file : file_code Edition.One (replicate 512 0) ≡ 14
  pub wrong_check : file_code Edition.One (1 ∷ replicate 511 0) ≡ 13

-- the rules of the grade, the second argument saying whether some item is forced; the rates' columns; the blocks
pub record Figures : Type 0 where
  pub rule_1 : grade_of 1 true ≡ 1
  pub rule_3 : grade_of 2 true ≡ 2
  pub rule_3_999 : grade_of 999 true ≡ 2
  pub rule_3_1000 : grade_of 1000 true ≡ 2
  pub rule_3_1001 : grade_of 1001 true ≡ 2
  pub rule_2 : grade_of 1000 false ≡ 5
  pub rule_2_1001 : grade_of 1001 false ≡ 5
  pub rule_4 : grade_of 2 false ≡ 3
  pub rule_4_most : grade_of 23 false ≡ 3
  pub rule_5 : grade_of 24 false ≡ 4
  pub rule_5_most : grade_of 999 false ≡ 4
  pub fleet_1 : rate 1 1 ≡ 420
  pub fleet_49 : rate 2 49 ≡ 380
  pub fleet_50 : rate 3 50 ≡ 285
  pub fleet_499 : rate 4 499 ≡ 240
  pub fleet_500 : rate 5 500 ≡ 180
  pub fleet_10000 : rate 1 10000 ≡ 360
  pub one_block : blocks_for 31 ≡ 1
  pub two_blocks : blocks_for 32 ≡ 2
  pub two_blocks_most : blocks_for 62 ≡ 2
  pub three_blocks : blocks_for 63 ≡ 3
  pub three_blocks_most : blocks_for 64 ≡ 3

-- a number in the columns of a sheet; the mark of the highest slot
pub record Columned : Type 0 where
  pub nought : aligned 0 ≡ 32 ∷ 48 ∷ []
  pub one_digit : aligned 9 ≡ 32 ∷ 57 ∷ []
  pub two_digits : aligned 10 ≡ 49 ∷ 48 ∷ []
  pub highest : aligned 63 ≡ 54 ∷ 51 ∷ []
  pub callout : mark_of (2 ^ 63 ∷ []) (63 ∷ []) 0 ≡ 67
  pub no_callout : mark_of ((2 ^ 63 - 1) ∷ []) (63 ∷ []) 0 ≡ 32

-- numbers in a listing; its last line below, at and above the 1,000 plans that are listed; and 1,001 plans of no items, of which 1,000 lines of
-- 7 to 10 bytes are written, between 7 bytes and 10
pub record Lines : Type 0 where
  pub nought : decimal 0 ≡ 48 ∷ []
  pub one_digit : decimal 9 ≡ 57 ∷ []
  pub two_digits : decimal 10 ≡ 49 ∷ 48 ∷ []
  pub most_digits : decimal (2 ^ 64 - 1) ≡ 49 ∷ 56 ∷ 52 ∷ 52 ∷ 54 ∷ 55 ∷ 52 ∷ 52 ∷ 48 ∷ 55 ∷ 51 ∷ 55 ∷ 48 ∷ 57 ∷ 53 ∷ 53 ∷ 49 ∷ 54 ∷ 49 ∷ 53 ∷ []
  pub plans-999 : last_line 999 ≡ 101 ∷ 110 ∷ 100 ∷ 32 ∷ 57 ∷ 57 ∷ 57 ∷ 10 ∷ []
  pub plans-1000 : last_line 1000 ≡ 101 ∷ 110 ∷ 100 ∷ 32 ∷ 49 ∷ 48 ∷ 48 ∷ 48 ∷ 10 ∷ []
  pub plans-1001 : last_line 1001 ≡ 109 ∷ 111 ∷ 114 ∷ 101 ∷ 32 ∷ 49 ∷ 48 ∷ 48 ∷ 48 ∷ 10 ∷ []
  pub listed_1000 : length (listing_of 1 [] (replicate 1001 [])) ≡ 8910
