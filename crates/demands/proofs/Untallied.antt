-- The calls without a tally beside those with one. Assumes nothing.
use mathlib.Core.Path.{◌≡◌, refl, sym, ap, ◌∙◌, subst}
use mathlib.Core.Logic.{◌≢◌, ⊎_elim}
use mathlib.Core.Bool.{Bool, true, false, cond, ◌||◌}
use mathlib.Core.List.{List, [], ◌∷◌}
use Prim.Native.Nat.{ℕ, zero, suc, ◌+◌, ◌-◌, ◌%◌, ◌^◌}
use native.Mathlib.Omega.{arith}
use borrow.Author.Tests.{le-ltb, eqb-false}
use lib.Dec.{eqb, ltb}
use lib.ListN.{length}
use Rattle.model.specs.Refusal.{or_else, unless, fleet_code}
use Rattle.model.specs.Count.{count}
use Rattle.model.specs.Ryser.{added_terms, taken_terms}
use Rattle.model.specs.CountAnswers.{count_unless, sized_code, untallied_count, count_code, count_answer}
use Rattle.model.specs.PriceAnswers.{grade_unless, untallied_grade, grade_answer, price_unless, untallied_price_code, untallied_price, price_code, price_answer}
use Rattle.model.proofs.Members.{neither}
use Rattle.model.proofs.Accepted.{tables-from}
use Rattle.model.proofs.Refusals.{or-first, or-none, sized_passed}
use Rattle.model.proofs.Codes.{untallied_count_code, count-code, grade-code, price-code}
use Rattle.model.proofs.Ryser.{ryser_is_count, ryser_sum}
use Rattle.demands.specs.Tests.{Test, FirstOf}
use Rattle.demands.specs.Untallied.{Untallied}
use Rattle.demands.proofs.Contracts.{count_each, grade_each, price_each, untallied_count_each, untallied_grade_each, untallied_price_each}
use Rattle.demands.proofs.Demand1.{untallied_count-number, untallied_grade-number, untallied_price-number}

-- ---- the same tests but for the tally's

-- 6 comes last, and is not given
but_6 : (code : ℕ) (b : Bool) → or_else code (cond b 6 0) ≢ 6 → or_else code (cond b 6 0) ≡ code
unfolding or_else
but_6 zero true d = absurd (d refl)
but_6 zero false d = refl
but_6 (suc c) b d = refl

-- a first refusal by 6 is one
stays_6 : (code later : ℕ) → or_else code later ≢ 6 → code ≢ 6
stays_6 code later d e = d (or-first code later (λ z. omega arith) ∙ e)

module _ (n : ℕ) (opens callouts : List ℕ) where
  module _ (words : ℕ) (same : count_code n n opens callouts words ≡ sized_code n n opens callouts) where
    count_by : untallied_count n n opens callouts ≡ count_answer n n opens callouts words
    unfolding untallied_count count_answer
    count_by = ap (λ c. count_unless c n opens) (sym same)

    grade-by : untallied_grade n n opens callouts ≡ grade_answer n n opens callouts words
    unfolding untallied_grade grade_answer
    grade-by = ap (λ c. grade_unless c n opens) (sym same)

    price-by : (vehicles : ℕ) → untallied_price n n opens callouts vehicles ≡ price_answer n n opens callouts vehicles words
    unfolding untallied_price untallied_price_code price_answer price_code
    price-by vehicles = ap (λ c. price_unless (or_else c (fleet_code vehicles)) n opens callouts vehicles) (sym same)

  sized_by : (words : ℕ) → count_code n n opens callouts words ≢ 6 → count_code n n opens callouts words ≡ sized_code n n opens callouts
  unfolding count_code
  sized_by words = but_6 (sized_code n n opens callouts) (ltb words (2 ^ n))

  enough : count_code n n opens callouts (2 ^ n) ≡ sized_code n n opens callouts
  unfolding count_code
  enough = ap (λ b. or_else (sized_code n n opens callouts) (cond b 6 0)) (le-ltb (2 ^ n) (2 ^ n) (omega arith)) ∙ or-none _

  -- ---- the answers, not refused by 6

  module _ (words : ℕ) where
    count_same : (count_answer n n opens callouts words).code ≢ 6 → untallied_count n n opens callouts ≡ count_answer n n opens callouts words
    count_same d = count_by words (sized_by words (λ e. d (count-code n n opens callouts words ∙ e)))

    grade-same : (grade_answer n n opens callouts words).code ≢ 6 → untallied_grade n n opens callouts ≡ grade_answer n n opens callouts words
    grade-same d = grade-by words (sized_by words (stays_6 _ _ (λ e. d (grade-code n n opens callouts words ∙ e))))

    price-same : (vehicles : ℕ) → (price_answer n n opens callouts vehicles words).code ≢ 6
        → untallied_price n n opens callouts vehicles ≡ price_answer n n opens callouts vehicles words
    unfolding price_code
    price-same vehicles d =
        price-by words (sized_by words (stays_6 _ (fleet_code vehicles) (stays_6 _ _ (λ e. d (price-code n n opens callouts words vehicles ∙ e))))) vehicles

-- ---- no 6

abbrev given6 : List Test → Bool
given6 [] = false
given6 (t ∷ tests) = eqb t.number 6 || given6 tests

not_6 : (tests : List Test) (code : ℕ) → FirstOf tests code → given6 tests ≡ false → code ≢ 6
unfolding FirstOf
not_6 [] code f w e = omega (arith, f)
not_6 (t ∷ tests) code f w e =
    let b = neither (eqb t.number 6) (given6 tests) w in
    ⊎_elim (λ x. eqb-false t.number 6 b.0 (sym x.1 ∙ e)) (λ x. not_6 tests code x.1 b.1 e) f

-- ---- the formula

module _ (n : ℕ) (opens callouts : List ℕ) (z : (untallied_count n n opens callouts).code ≡ 0) where
  passed : sized_code n n opens callouts ≡ 0
  passed = sym (untallied_count_code n n opens callouts) ∙ z

  rows : length opens ≡ n
  rows = (tables-from n n opens callouts (sized_passed n n opens callouts passed).0).open_words

  number : (untallied_count n n opens callouts).count ≡ count n opens
  unfolding untallied_count count_unless unless
  number = ap (λ c. (count_unless c n opens).count) passed

  formula : added_terms n opens ≡ taken_terms n opens + (untallied_count n n opens callouts).count
  formula =
      subst (λ m. added_terms m opens ≡ taken_terms m opens + count m opens) rows (ryser_is_count opens) ∙ ap (taken_terms n opens +◌) (sym number)

  formula_modulo : (added_terms n opens + (2 ^ 64 - taken_terms n opens % 2 ^ 64)) % 2 ^ 64 ≡ (untallied_count n n opens callouts).count
  formula_modulo =
      subst (λ m. (added_terms m opens + (2 ^ 64 - taken_terms m opens % 2 ^ 64)) % 2 ^ 64 ≡ count m opens) rows
      (ryser_sum opens (omega (arith, rows, (sized_passed n n opens callouts passed).1))) ∙ sym number

-- ---- the theorem

pub untallied : Untallied
untallied =
    record {
      count_same = count_each _ (λ n o k tally d. untallied_count_each _ (λ n' o' k' sn so sk. rw (sn, so, sk) (count_same n o k _ d)));
      grade-same = grade_each _ (λ n o k tally d. untallied_grade_each _ (λ n' o' k' sn so sk. rw (sn, so, sk) (grade-same n o k _ d)));
      price-same = price_each _ (λ n o k v tally d. untallied_price_each _ (λ n' o' k' v' sn so sk sv. rw (sn, so, sk, sv) (price-same n o k _ v d)));
      count_enough = untallied_count_each _ (λ n o k. count_by n o k (2 ^ n) (enough n o k));
      grade_enough = untallied_grade_each _ (λ n o k. grade-by n o k (2 ^ n) (enough n o k));
      price_enough = untallied_price_each _ (λ n o k. price-by n o k (2 ^ n) (enough n o k));
      count-not_6 = untallied_count_each _ (λ n o k. not_6 _ _ (untallied_count-number n o k) refl);
      grade-not_6 = untallied_grade_each _ (λ n o k. not_6 _ _ (untallied_grade-number n o k) refl);
      price-not_6 = untallied_price_each _ (λ n o k v. not_6 _ _ (untallied_price-number n o k v) refl);
      formula = untallied_count_each _ formula;
      formula_modulo = untallied_count_each _ formula_modulo;
    }
