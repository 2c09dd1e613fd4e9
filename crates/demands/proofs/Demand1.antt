-- Demand 1 holds of the calls. Assumes nothing.
use mathlib.Core.Path.{◌≡◌, refl, sym, ap, ◌∙◌, subst}
use mathlib.Core.Logic.{◌≢◌}
use mathlib.Core.Bool.{Bool, true, false, cond}
use mathlib.Core.List.{List, [], ◌∷◌}
use Prim.Native.Nat.{ℕ, zero, suc, ◌+◌, ◌*◌, ◌^◌, ◌≤◌}
use lib.Dec.{leb}
use lib.ListN.{length, take}
use Rattle.model.specs.declared.Plan.{Plan}
use Rattle.model.specs.declared.PlanAnswer.{PlanAnswer}
use Rattle.model.specs.declared.ReadAnswer.{ReadAnswer}
use Rattle.model.specs.declared.WriteAnswer.{WriteAnswer}
use Rattle.model.specs.Refusal.{or_else, unless, written, fleet_code, room_code}
use Rattle.model.specs.Rota.{table_code}
use Rattle.model.specs.CellPlans.{cell_plan}
use Rattle.model.specs.Plans.{blank}
use Rattle.model.specs.Count.{count, permanent}
use Rattle.model.specs.declared.Edition.{Edition}
use Rattle.model.specs.File.{blocks_for, file_code, items_in, slots_in, opens_in, callouts_in}
use Rattle.model.specs.PlanAnswers.{given, refused, first_answer, next_answer, fewest_answer, cell_answer}
use Rattle.model.specs.Lister.{lister_answer, lister_after}
use Rattle.model.specs.SheetAnswers.{sheet_code, sheet_after}
use Rattle.model.specs.UsableAnswers.{usable_after}
use Rattle.model.specs.CountAnswers.{count_unless, sized_code, untallied_count, count_code, count_answer, count_tally}
use Rattle.model.specs.PriceAnswers.{price_by, untallied_grade, grade_answer, grade_tally, untallied_price_code, untallied_price, price_code, price_answer, price_tally}
use Rattle.model.specs.Ranks.{unrank, rank}
use Rattle.model.specs.NumberAnswers.{plan_at_code, plan_at_answer, plan_at_tally, number_given, number_refused, plan_number_code, plan_number_answer, plan_number_tally}
use Rattle.model.specs.FileAnswers.{read_refused, read_code, read_answer, read_opens, read_callouts, write_refused, write_code, write_answer, write_file, plan_file_code}
use Rattle.model.specs.FileAnswers.{on_file, buffer_after}
use Rattle.model.proofs.Refusals.{or-none, or_assoc, or_later, nothing_written}
use Rattle.model.proofs.Codes.{first_code, next_code, fewest_code, cell-code, count-code, grade-code, price-code, read-code, write-code, on-file_code}
use Rattle.model.proofs.Codes.{untallied_count_code, untallied_grade_code, untallied-price-code, plan-at_code, plan-number_code}
use Rattle.model.proofs.Permanent.{permanent_is_count}
use Rattle.model.proofs.Files.{accepted-file}
use Rattle.model.proofs.Listing.{refused-keeps}
use Rattle.demands.specs.Tests.{Test, FirstOf, test5, test6, test7, test8, test9, test10, test11, test15, test16, tables, file_tests}
use Rattle.demands.specs.Demand1.{Refused, Demand1}
use Rattle.demands.proofs.Contracts.{first_each, next_each, fewest_each, cell_each, sheet_each, list_each, usable_each, count_each, grade_each}
use Rattle.demands.proofs.Contracts.{price_each, untallied_count_each, untallied_grade_each, untallied_price_each, read_each, write_each}
use Rattle.demands.proofs.Contracts.{file-first_each, file-next_each, file-fewest_each, plan-at_each, plan-number_each, ask_nothing}
use Rattle.demands.proofs.TestLaws.{Tells, none-fits, tables-first, file-first, either, equals, less, not-above, test_first, room-first}
use Rattle.demands.proofs.Definitions.{first_tests, plan-first, next_tests, fewest_tests, grade_tests, price_tests}
use Rattle.demands.proofs.Outcomes.{first_says, next_says, list_says, fewest_says, sized_tested, untallied_price_tested, count_tested, price_tested}
use Rattle.demands.proofs.Outcomes.{grade_says, price_says}

-- ---- the numbers, in their order

-- a code that equals one for which the first test that fits is known
by : (tests : List Test) (c d : ℕ) → c ≡ d → FirstOf tests d → FirstOf tests c
by tests c d e f = subst (FirstOf tests) (sym e) f

-- the last test of a list
last : (tests : List Test) (x c : ℕ) → FirstOf tests (or_else x 0) → c ≡ x → FirstOf tests c
last tests x c f e = by tests c (or_else x 0) (e ∙ sym (or-none x)) f

module _ (n : ℕ) (opens callouts : List ℕ) where
  first-number : FirstOf (tables n opens callouts (test9 opens ∷ [])) (first_answer n n opens callouts).code
  first-number = rw (first_code n n opens callouts) (tables-first n opens callouts _ _ (first_tests n n opens callouts))

  next-number : (g : Plan) → FirstOf (tables n opens callouts (test8 opens g.slots ∷ test10 opens g.slots ∷ [])) (next_answer n n opens callouts g).code
  next-number g = rw (next_code n n opens callouts g) (tables-first n opens callouts _ _ (λ ok. next_tests n n opens callouts ok g.slots))

  fewest-number : (cap : ℕ) → FirstOf (tables n opens callouts (test9 opens ∷ test11 opens callouts cap ∷ [])) (fewest_answer n n opens callouts cap).code
  fewest-number cap = rw (fewest_code n n opens callouts cap) (tables-first n opens callouts _ _ (λ ok. fewest_tests n n opens callouts ok cap))

  cell-number : (i j : ℕ) → FirstOf (tables n opens callouts []) (cell_answer n n opens callouts i j).code
  cell-number i j = last _ _ _ (tables-first n opens callouts [] 0 (λ ok. none-fits)) (cell-code n n opens callouts i j)

  sheet-number : (g : Plan) (old : List ℕ)
      → FirstOf (tables n opens callouts (test15 old ((n + 1) * 32) ∷ test8 opens g.slots ∷ [])) (sheet_code n n opens callouts g (length old))
  unfolding sheet_code
  sheet-number g old =
      tables-first n opens callouts _ _ (λ ok.
      room-first _ _ old ((n + 1) * 32) (λ h. last _ _ _ (plan-first n n opens callouts ok g.slots [] 0 none-fits) refl))

  list_number : (started : Bool) (g : Plan)
      → FirstOf (tables n opens callouts (cond started (test8 opens g.slots ∷ test10 opens g.slots ∷ []) (test9 opens ∷ [])))
      (cond started (next_answer n n opens callouts g) (first_answer n n opens callouts)).code
  list_number true g = next-number g
  list_number false g = first-number

  room_says : (output : List ℕ) (wanted : ℕ)
      → FirstOf (tables n opens callouts (test15 output wanted ∷ [])) (or_else (table_code n n opens callouts) (room_code (length output) wanted))
  room_says output wanted = tables-first n opens callouts _ _ (λ ok. last _ _ _ (room-first [] 0 output wanted (λ z. none-fits)) refl)

  -- the tests up to 5, then others
  sized : (others : List Test) (later : ℕ) → (table_code n n opens callouts ≡ 0 → FirstOf others later)
      → FirstOf (tables n opens callouts (test5 n ∷ others)) (or_else (sized_code n n opens callouts) later)
  unfolding sized_code
  sized others later f =
      simp or_assoc (tables-first n opens callouts _ _ (λ ok. test_first (test5 n) 4 _ refl (less 20 n) others later (λ s. f ok)))

  pub untallied_count-number : FirstOf (tables n opens callouts (test5 n ∷ [])) (untallied_count n n opens callouts).code
  untallied_count-number = last _ _ _ (sized [] 0 (λ ok. none-fits)) (untallied_count_code n n opens callouts)

  pub untallied_grade-number : FirstOf (tables n opens callouts (test5 n ∷ test9 opens ∷ [])) (untallied_grade n n opens callouts).code
  untallied_grade-number = rw (untallied_grade_code n n opens callouts) (sized _ _ (λ ok. grade_tests n n opens callouts ok _))

  -- 7, and without a plan 9
  fleet_says : (vehicles cents : ℕ) → table_code n n opens callouts ≡ 0
      → FirstOf (test7 vehicles ∷ test9 opens ∷ []) (or_else (fleet_code vehicles) (price_by opens (count n opens) cents).code)
  fleet_says vehicles cents ok =
      test_first (test7 vehicles) 6 _ refl (either _ _ _ _ (equals vehicles 0) (less 10000 vehicles)) _ _ (λ v. price_tests n n opens callouts ok cents)

  pub untallied_price-number : (vehicles : ℕ)
      → FirstOf (tables n opens callouts (test5 n ∷ test7 vehicles ∷ test9 opens ∷ [])) (untallied_price n n opens callouts vehicles).code
  unfolding untallied_price_code
  untallied_price-number vehicles =
      rw (untallied-price-code n n opens callouts vehicles, or_assoc (sized_code n n opens callouts)) (sized _ _ (fleet_says vehicles _))

  -- the tests up to 6, then others
  counted : (tally : List ℕ) (others : List Test) (later : ℕ) → (table_code n n opens callouts ≡ 0 → FirstOf others later)
      → FirstOf (tables n opens callouts (test5 n ∷ test6 n tally ∷ others)) (or_else (count_code n n opens callouts (length tally)) later)
  unfolding count_code
  counted tally others later f =
      rw (or_assoc (sized_code n n opens callouts))
      (sized _ _ (λ ok. test_first (test6 n tally) 5 _ refl (less (length tally) (2 ^ n)) others later (λ t. f ok)))

  count-number : (tally : List ℕ) → FirstOf (tables n opens callouts (test5 n ∷ test6 n tally ∷ [])) (count_answer n n opens callouts (length tally)).code
  count-number tally = last _ _ _ (counted tally [] 0 (λ ok. none-fits)) (count-code n n opens callouts (length tally))

  grade-number : (tally : List ℕ)
      → FirstOf (tables n opens callouts (test5 n ∷ test6 n tally ∷ test9 opens ∷ [])) (grade_answer n n opens callouts (length tally)).code
  grade-number tally = rw (grade-code n n opens callouts (length tally)) (counted tally _ _ (λ ok. grade_tests n n opens callouts ok _))

  price-number : (vehicles : ℕ) (tally : List ℕ)
      → FirstOf (tables n opens callouts (test5 n ∷ test6 n tally ∷ test7 vehicles ∷ test9 opens ∷ []))
      (price_answer n n opens callouts vehicles (length tally)).code
  unfolding price_code
  price-number vehicles tally =
      rw (price-code n n opens callouts (length tally) vehicles, or_assoc (count_code n n opens callouts (length tally)))
      (counted tally _ _ (fleet_says vehicles _))

  plan-at-number : (k : ℕ) (tally : List ℕ)
      → FirstOf (tables n opens callouts (test5 n ∷ test6 n tally ∷ test16 n opens k ∷ [])) (plan_at_answer n n opens callouts k (length tally)).code
  unfolding plan_at_code
  plan-at-number k tally =
      let fits : Tells (leb (count n opens) k) (permanent n opens ≤ k) = subst (λ c. Tells (leb c k) (permanent n opens ≤ k)) (permanent_is_count n opens) (not-above _ k) in
      rw (plan-at_code n n opens callouts (length tally) k)
      (counted tally _ _ (λ ok. last _ _ _ (test_first (test16 n opens k) 15 _ refl fits [] 0 (λ z. none-fits)) refl))

  plan-number-number : (g : Plan) (tally : List ℕ)
      → FirstOf (tables n opens callouts (test5 n ∷ test6 n tally ∷ test8 opens g.slots ∷ [])) (plan_number_answer n n opens callouts g (length tally)).code
  unfolding plan_number_code
  plan-number-number g tally =
      rw (plan-number_code n n opens callouts (length tally) g)
      (counted tally _ _ (λ ok. last _ _ _ (plan-first n n opens callouts ok g.slots [] 0 none-fits) refl))

module _ (file : List ℕ) where
  abbrev n : ℕ
  n = items_in file

  read_says : (o k : List ℕ) → FirstOf (file_tests file (test15 o n ∷ test15 k n ∷ [])) (read_answer Edition.One file (length o) (length k)).code
  unfolding read_code
  read_says o k =
      by _ _ _ (read-code Edition.One file (length o) (length k))
      (file-first file (test15 o n ∷ test15 k n ∷ []) _ (λ ok.
      room-first (test15 k n ∷ []) _ o n (λ h. last (test15 k n ∷ []) _ _ (room-first [] 0 k n (λ z. none-fits)) refl)))

  -- a plan call over the file's rota, whose tests after those of the tables are known
  module _ (old : List ℕ) (others : List Test) (call : ℕ → ℕ → List ℕ → List ℕ → PlanAnswer) (found : ℕ)
      (e : (call n n (opens_in file) (callouts_in file)).code ≡ or_else (table_code n n (opens_in file) (callouts_in file)) found)
      (f : table_code n n (opens_in file) (callouts_in file) ≡ 0 → FirstOf others found) where
    on-file_says : FirstOf (file_tests file (test15 old 64 ∷ others)) (on_file Edition.One file (length old) call).code
    unfolding plan_file_code slots_in
    on-file_says =
        by _ _ _ (on-file_code Edition.One file (length old) call ∙ or_assoc (file_code Edition.One file) (room_code (length old) 64) _)
        (file-first file (test15 old 64 ∷ others) _ (λ z.
        let ok = accepted-file Edition.One file z in
        room-first others _ old 64 (λ h. by others _ _ (e ∙ or_later _ _ ok) (f ok))))

-- ---- what a refusal returns

zero-cell : (n : ℕ) (opens callouts : List ℕ) (i j : ℕ) → (cell_answer n n opens callouts i j).code ≢ 0 → Refused (cell_answer n n opens callouts i j)
unfolding cell_answer unless
zero-cell n opens callouts i j =
    let answer : ℕ → PlanAnswer = λ c. unless refused c (given (cell_plan n opens i j) 0) in
    elim (table_code n n opens callouts) as (λ c. (answer c).code ≢ 0 → Refused (answer c)) [ zero ↦ λ d. absurd (d refl) | suc c ↦ λ d. search refl ]

-- the blank plan and zeros
zero-plan : (code : ℕ) (p : List ℕ)
    → let r = unless refused code (given p 0) in r.code ≢ 0 → (r.plan.slots ≡ blank) × (r.shortage ≡ 0) × (r.items ≡ 0) × (r.callouts ≡ 0)
unfolding unless
zero-plan zero p d = absurd (d refl)
zero-plan (suc c) p d = (refl, refl, refl, refl)

zero_number : (code k : ℕ) → let r = unless number_refused code (number_given k) in r.code ≢ 0 → r.number ≡ 0
unfolding unless
zero_number zero k d = absurd (d refl)
zero_number (suc c) k d = refl

zero-count : (code n : ℕ) (opens : List ℕ) → (count_unless code n opens).code ≢ 0 → (count_unless code n opens).count ≡ 0
unfolding count_unless
zero-count zero n opens d = absurd (d refl)
zero-count (suc c) n opens d = refl

zero-bytes : (n : ℕ) (opens callouts : List ℕ) (words : ℕ) → (write_answer n n opens callouts words).code ≢ 0 → (write_answer n n opens callouts words).bytes ≡ 0
unfolding write_answer unless
zero-bytes n opens callouts words =
    let answer : ℕ → WriteAnswer = λ c. unless write_refused c (record { code = 0; bytes = 512 * blocks_for n }) in
    elim (write_code n n opens callouts words) as (λ c. (answer c).code ≢ 0 → (answer c).bytes ≡ 0) [ zero ↦ λ d. absurd (d refl) | suc c ↦ λ d. refl ]

zero-items : (file : List ℕ) (o k : ℕ) → (read_answer Edition.One file o k).code ≢ 0 → (read_answer Edition.One file o k).n ≡ 0
unfolding read_answer unless
zero-items file o k =
    let answer : ℕ → ReadAnswer = λ c. unless read_refused c (record { code = 0; n = items_in file }) in
    elim (read_code Edition.One file o k) as (λ c. (answer c).code ≢ 0 → (answer c).n ≡ 0) [ zero ↦ λ d. absurd (d refl) | suc c ↦ λ d. refl ]

-- ---- what it leaves alone

-- a buffer that is written by the code that the call gave
kept : (r code : ℕ) (values old new : List ℕ) → r ≡ code → new ≡ written code values old → r ≢ 0 → new ≡ old
kept r code values old new e q d = q ∙ sym (nothing_written r code d (sym e) values old)

-- ---- the theorem

pub demand1 : Demand1
unfolding lister_after sheet_after usable_after count_tally grade_tally price_tally untallied_count untallied_grade untallied_price
    plan_at_answer plan_at_tally plan_number_answer plan_number_tally read_opens read_callouts write_code write_file buffer_after
demand1 =
    record {
      anything = ask_nothing;
      first_code = first_each _ first-number;
      next_code = next_each _ next-number;
      list_code = list_each _ (λ e n o k. list_number n o k e.started e.plan);
      fewest_code = fewest_each _ fewest-number;
      cell-code = cell_each _ cell-number;
      sheet-code = sheet_each _ sheet-number;
      usable-code = usable_each _ (λ n o k old. room_says n o k old n);
      count_code = count_each _ count-number;
      grade_code = grade_each _ grade-number;
      price-code = price_each _ price-number;
      untallied_count_code = untallied_count_each _ untallied_count-number;
      untallied_grade_code = untallied_grade_each _ untallied_grade-number;
      untallied-price-code = untallied_price_each _ untallied_price-number;
      plan-at_code = plan-at_each _ plan-at-number;
      plan-number_code = plan-number_each _ plan-number-number;
      read-code = read_each (λ file o k r o' k' e w x. by _ _ _ (ap (λ x. x.code) e) (read_says file o k));
      write-code = write_each (λ n o k old r new e w.
          by _ _ _ (ap (λ x. x.code) e ∙ write-code n n o k (length old)) (room_says n o k old (512 * blocks_for n)));
      file-first_code = file-first_each (λ file old r new e w.
          let n = items_in file in let o = opens_in file in let k = callouts_in file in
          by _ _ _ e (on-file_says file old (test9 o ∷ []) first_answer _ (first_code n n o k) (first_tests n n o k)));
      file-next_code = file-next_each (λ file old r new e w.
          let n = items_in file in let o = opens_in file in let k = callouts_in file in let p = take 64 old in
          by _ _ _ e (on-file_says file old (test8 o p ∷ test10 o p ∷ []) (λ n m o k. next_answer n m o k (record { slots = p })) _
          (next_code n n o k (record { slots = p })) (λ ok. next_tests n n o k ok p)));
      file-fewest_code = file-fewest_each (λ file old cap r new e w.
          let n = items_in file in let o = opens_in file in let k = callouts_in file in
          by _ _ _ e (on-file_says file old (test9 o ∷ test11 o k cap ∷ []) (λ n m o k. fewest_answer n m o k cap) _
          (fewest_code n n o k cap) (λ ok. fewest_tests n n o k ok cap)));
      first-refused = first_each _ (λ n o k. (first_says n o k).on_refusal);
      next-refused = next_each _ (λ n o k g. (next_says n o k g).on_refusal);
      list_refused = list_each _ (λ e n o k. (list_says n o k e).on_refusal);
      fewest-refused = fewest_each _ (λ n o k cap. (fewest_says n o k cap).on_refusal);
      cell-refused = cell_each _ zero-cell;
      count-refused = count_each _ (λ n o k tally. zero-count (count_code n n o k (length tally)) n o);
      grade-refused = grade_each _ (λ n o k tally. (grade_says n o k (count_tested n o k (length tally))).0);
      price-refused = price_each _ (λ n o k v tally. (price_says n o k (price_tested n o k v (length tally)) v).0);
      untallied_count-refused = untallied_count_each _ (λ n o k. zero-count (sized_code n n o k) n o);
      untallied_grade-refused = untallied_grade_each _ (λ n o k. (grade_says n o k (sized_tested n o k)).0);
      untallied_price-refused = untallied_price_each _ (λ n o k v. (price_says n o k (untallied_price_tested n o k v) v).0);
      plan-at-refused = plan-at_each _ (λ n o c k tally. zero-plan (plan_at_code n n o c k (length tally)) (unrank n o k));
      plan-number-refused = plan-number_each _ (λ n o c g tally. zero_number (plan_number_code n n o c g (length tally)) (rank n o g.slots));
      read-refused = read_each (λ file o k r o' k' e w x. subst (λ (x : ReadAnswer). x.code ≢ 0 → x.n ≡ 0) (sym e) (zero-items file (length o) (length k)));
      write-refused = write_each (λ n o k old r new e w. subst (λ (x : WriteAnswer). x.code ≢ 0 → x.bytes ≡ 0) (sym e) (zero-bytes n o k (length old)));
      list_keeps = list_each _ (λ e n o k. refused-keeps e (lister_answer e n n o k));
      sheet-keeps = sheet_each _ (λ n o k g old. kept _ _ _ old _ refl refl);
      usable-keeps = usable_each _ (λ n o k old. kept _ _ _ old _ refl refl);
      count-keeps = count_each _ (λ n o k tally. kept _ _ _ tally _ refl refl);
      grade-keeps = grade_each _ (λ n o k tally. kept _ _ _ tally _ refl refl);
      price-keeps = price_each _ (λ n o k v tally. kept _ _ _ tally _ refl refl);
      plan-at-keeps = plan-at_each _ (λ n o c k tally. kept _ _ _ tally _ refl refl);
      plan-number-keeps = plan-number_each _ (λ n o c g tally. kept _ _ _ tally _ refl refl);
      read_keeps = read_each (λ file o k r o' k' e w x d.
          let q = ap (λ x. x.code) e ∙ read-code Edition.One file (length o) (length k) in
          (kept r.code _ _ o o' q w d, kept r.code _ _ k k' q x d));
      write_keeps = write_each (λ n o k old r new e w. kept r.code _ _ old new (ap (λ x. x.code) e ∙ write-code n n o k (length old)) w);
      file-first-keeps = file-first_each (λ file old r new e w. kept r _ _ old new e w);
      file-next-keeps = file-next_each (λ file old r new e w. kept r _ _ old new e w);
      file-fewest-keeps = file-fewest_each (λ file old cap r new e w. kept r _ _ old new e w);
    }
