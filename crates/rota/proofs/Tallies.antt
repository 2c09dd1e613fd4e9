-- The calls with a tally: its size, and what they answer and leave in it. Assumes nothing.
use mathlib.Core.Path.{◌≡◌, refl, sym, ap, ◌∙◌}
use mathlib.Core.Logic.{◌≢◌}
use mathlib.Core.List.{List}
use Prim.Native.Nat.{ℕ, ◌^◌, ◌≤◌}
use lib.ListN.{length}
use Rattle.std.specs.Prelude.{Ok, Err}
use Rattle.model.specs.declared.Refusal.{Refusal}
use Rattle.model.specs.declared.PlanAnswer.{PlanAnswer}
use Rattle.model.specs.declared.CountAnswer.{CountAnswer}
use Rattle.model.specs.declared.GradeAnswer.{GradeAnswer}
use Rattle.model.specs.declared.PriceAnswer.{PriceAnswer}
use Rattle.model.specs.Refusal.{unless, written, number, code_of}
use Rattle.model.specs.Count.{count, subset_counts}
use Rattle.model.specs.Grade.{some_forced, grade_of, monthly_price}
use Rattle.model.specs.CountAnswers.{count_refused, count_unless, count_code, count_answer, count_tally}
use Rattle.model.specs.PlanAnswers.{first_from, fewest_from}
use Rattle.model.specs.PriceAnswers.{grade_given, grade_refused, grade_short, grade_unless, grade_answer, grade_tally}
use Rattle.model.specs.PriceAnswers.{price_given, price_refused, price_short, price_unless, price_code, price_answer, price_tally}
use Rattle.model.proofs.Refusals.{neither_refuses, tally_passed, fleet_passed, code-refused, code_passed, answers_number, nothing_written}
use Rattle.rota.proofs.Countable.{Countable, countable, counted, grade_ends, graded}
use Rattle.rota.proofs.Priced.{price_ends, priced}

module _ (n m : ℕ) (opens callouts : List ℕ) (words : ℕ) where
  pub tallied : count_code n m opens callouts words ≡ 0 → Countable n m opens callouts (count_code n m opens callouts words) × (2 ^ m ≤ words)
  unfolding count_code
  tallied z = let a = neither_refuses _ _ z in (countable n m opens callouts z a.0, tally_passed m words a.1)

  pub tallied_price : (vehicles : ℕ) → price_code n m opens callouts vehicles words ≡ 0
      → Countable n m opens callouts (price_code n m opens callouts vehicles words) × (2 ^ m ≤ words) × (vehicles ≤ 10000)
  unfolding price_code
  tallied_price vehicles z =
      let a = neither_refuses _ _ z in
      let b = neither_refuses _ _ a.0 in
      (countable n m opens callouts z b.0, tally_passed m words b.1, (fleet_passed vehicles a.1).1)

-- what a call's test says that let it go on
pub ready : {n m : ℕ} {opens callouts : List ℕ} {words : ℕ} {u : Unit {0}} → code_of (Ok u) ≡ count_code n m opens callouts words
    → Countable n m opens callouts (count_code n m opens callouts words) × (2 ^ m ≤ words)
ready {n} {m} {opens} {callouts} {words} {u} e = tallied n m opens callouts words (code_passed u e)

-- ---- an answer, and the tally that its number leaves

module _ {A : Type 0} (number_of : A → ℕ) (whole : A) (values old : List ℕ) where
  abbrev pub Leaves : A → List ℕ → Type 0
  Leaves r new = record { answer : r ≡ whole; tally : new ≡ written (number_of whole) values old }

  pub keeps : {r : A} → r ≡ whole → number_of r ≢ 0 → Leaves r old
  keeps {r} q d = record { answer = q; tally = nothing_written (number_of r) _ d (sym (ap number_of q)) values old }

  pub writes : {r : A} → r ≡ whole → number_of r ≡ 0 → {new : List ℕ} → new ≡ written 0 values old → Leaves r new
  writes q z w = record { answer = q; tally = w ∙ ap (λ c. written c values old) (sym z ∙ ap number_of q) }

-- the same where r refused the call
module _ {A : Type 0} (number_of : A → ℕ) (refusal : ℕ → A) (same : (c : ℕ) → number_of (refusal c) ≡ c) (code : ℕ) (answer : A) (values old : List ℕ) where
  pub refused-keeps : (r : Refusal) → code_of {A = Unit {0}} (Err r) ≡ code → {a : A} → a ≡ refusal (number r)
      → Leaves number_of (unless refusal code answer) values old a old
  refused-keeps r e q =
      let d = (code-refused (Unit {0}) r e).1 in
      keeps number_of _ values old (q ∙ answers_number (Unit {0}) r e refusal answer) (λ z. d (sym (ap number_of q ∙ same (number r)) ∙ z))

module _ (n m : ℕ) (opens callouts tally : List ℕ) where
  -- ---- the count

  abbrev Counts : CountAnswer → List ℕ → Type 0
  Counts a new = record { answer : a ≡ count_answer n m opens callouts (length tally); tally : new ≡ count_tally n m opens callouts tally }

  pub count-refused : (r : Refusal) → code_of {A = Unit {0}} (Err r) ≡ count_code n m opens callouts (length tally)
      → {a : CountAnswer} → a ≡ count_refused (number r) → Counts a tally
  unfolding count_answer count_tally count_unless
  count-refused = refused-keeps (λ (a : CountAnswer). a.code) count_refused (λ c. refl) _ _ (subset_counts m opens) tally

  pub count_done : count_code n m opens callouts (length tally) ≡ 0 → {number : ℕ} → number ≡ count m opens
      → {a : CountAnswer} → a ≡ record { code = 0; count = number } → {new : List ℕ} → new ≡ written 0 (subset_counts m opens) tally → Counts a new
  unfolding count_answer count_tally
  count_done z q e w =
      writes (λ (a : CountAnswer). a.code) _ (subset_counts m opens) tally (counted (tallied n m opens callouts (length tally) z).0 q e)
      (ap (λ (a : CountAnswer). a.code) e) w

  -- ---- the grade

  abbrev Grades : GradeAnswer → List ℕ → Type 0
  Grades a new = record { answer : a ≡ grade_answer n m opens callouts (length tally); tally : new ≡ grade_tally n m opens callouts tally }

  module _ {code : ℕ} (e : code ≡ count_code n m opens callouts (length tally)) where
    able : code ≡ 0 → Countable n m opens callouts (count_code n m opens callouts (length tally))
    able z = (tallied n m opens callouts (length tally) (sym e ∙ z)).0

    pub grade-ends : (found : PlanAnswer) → (code ≡ 0 → (found ≡ first_from 64 opens) × (found.code ≢ 0))
        → {a : GradeAnswer} → a ≡ unless grade_refused code (grade_short found.shortage found.items) → Grades a tally
    unfolding grade_answer grade_tally
    grade-ends found F q =
        let ends = grade_ends code (λ z. (able z).passed) found F q in
        keeps (λ (a : GradeAnswer). a.code) _ (subset_counts m opens) tally (ends.0 ∙ ap (λ c. grade_unless c m opens) e) ends.1

    pub grade_done : code ≡ 0 → {found : PlanAnswer} → found ≡ first_from 64 opens → found.code ≡ 0
        → {number : ℕ} → number ≡ count m opens → {g : ℕ} → g ≡ grade_of number (some_forced 64 opens)
        → {a : GradeAnswer} → a ≡ grade_given g → {new : List ℕ} → new ≡ written 0 (subset_counts m opens) tally → Grades a new
    unfolding grade_answer grade_tally
    grade_done z f y q g a w =
        writes (λ (x : GradeAnswer). x.code) _ (subset_counts m opens) tally (graded (able z) f y q g a) (ap (λ (x : GradeAnswer). x.code) a) w

  -- ---- the price

  module _ (vehicles : ℕ) {code : ℕ} (e : code ≡ price_code n m opens callouts vehicles (length tally)) where
    abbrev Prices : PriceAnswer → List ℕ → Type 0
    Prices a new = record {
      answer : a ≡ price_answer n m opens callouts vehicles (length tally);
      tally : new ≡ price_tally n m opens callouts vehicles tally;
    }

    fit : code ≡ 0 → Countable n m opens callouts (price_code n m opens callouts vehicles (length tally))
    fit z = (tallied_price n m opens callouts (length tally) vehicles (sym e ∙ z)).0

    pub price-ends : (found : PlanAnswer) → (code ≡ 0 → (found ≡ fewest_from 64 opens callouts 64) × (found.code ≢ 0))
        → {a : PriceAnswer} → a ≡ unless price_refused code (price_short found.shortage found.items) → Prices a tally
    unfolding price_answer price_tally
    price-ends found F q =
        let ends = price_ends vehicles code (λ z. (fit z).passed) found F q in
        keeps (λ (a : PriceAnswer). a.code) _ (subset_counts m opens) tally
        (ends.0 ∙ ap (λ c. price_unless c m opens callouts vehicles) e) ends.1

    pub price_done : code ≡ 0 → {found : PlanAnswer} → found ≡ fewest_from 64 opens callouts 64 → found.code ≡ 0
        → {number : ℕ} → number ≡ count m opens → {c : ℕ} → c ≡ monthly_price (grade_of number (some_forced 64 opens)) vehicles found.callouts
        → {a : PriceAnswer} → a ≡ price_given c → {new : List ℕ} → new ≡ written 0 (subset_counts m opens) tally → Prices a new
    unfolding price_answer price_tally
    price_done z f y q c a w =
        writes (λ (x : PriceAnswer). x.code) _ (subset_counts m opens) tally (priced (fit z) f y q vehicles c a)
        (ap (λ (x : PriceAnswer). x.code) a) w
