-- Which answers of grade and price a change of the grade's rules moves, once it is known which rotas it moves. Assumes nothing.
use mathlib.Core.Path.{◌≡◌, refl, sym, ap, ◌∙◌}
use mathlib.Core.Logic.{◌≢◌, ◌⊎◌, inl, inr}
use mathlib.Core.List.{List, []}
use Prim.Native.Nat.{ℕ, zero, suc, ◌≤◌, ◌<◌}
use native.Mathlib.Nat.{mul-le-mul_right}
use native.Mathlib.Omega.{arith}
use lib.ListN.{length, get_or}
use Rattle.model.specs.declared.GradeAnswer.{GradeAnswer}
use Rattle.model.specs.declared.PriceAnswer.{PriceAnswer}
use Rattle.model.specs.Rota.{table_code}
use Rattle.model.specs.Refusal.{or_else, unless, written, fleet_code}
use Rattle.model.specs.Fewest.{fewest}
use Rattle.model.specs.Count.{count, subset_counts}
use Rattle.model.specs.Grade.{grade_of, rota_grade, rates, rate, monthly_price}
use Rattle.model.specs.CountAnswers.{sized_code, count_code}
use Rattle.model.specs.PriceAnswers.{grade_given, grade_refused, grade_by, grade_unless, grade_answer, grade_tally, untallied_grade, price_given, price_refused, price_by}
use Rattle.model.specs.PriceAnswers.{price_unless, price_code, price_answer, price_tally, untallied_price_code, untallied_price}
use Rattle.model.proofs.Refusals.{neither_refuses, fleet_passed}
use Rattle.model.proofs.Grades.{grade_forced, by_column}
use Rattle.model.proofs.Forced.{forced_into}
use Rattle.demands.specs.Regrading.{grade_was, price_was, OneUsable, Moved, Regrading}
use Rattle.demands.specs.Calls.{EachGrade}
use Rattle.demands.proofs.Contracts.{grade_each, price_each, untallied_grade_each, untallied_price_each}
use Rattle.demands.proofs.Outcomes.{CodeTested, sized_tested, untallied_price_tested, count_tested, price_tested}

-- ---- grade 2, and the grades with lower rates

abbrev pub Lower : ℕ → Type 0
Lower grade = (grade ≡ 3) ⊎ (grade ≡ 4) ⊎ (grade ≡ 5)

rate-lt : (grade vehicles : ℕ) → Lower grade → rate grade vehicles < rate 2 vehicles
unfolding rate rates
rate-lt grade vehicles g =
    let less : ℕ → ℕ → Type 0 = λ row column. get_or (get_or rates row []) column 0 < get_or (get_or rates 1 []) column 0 in
    elim g [
      | inl e ↦ rw e (by_column (less 2) vehicles (omega arith) (omega arith) (omega arith))
      | inr (inl e) ↦ rw e (by_column (less 3) vehicles (omega arith) (omega arith) (omega arith))
      | inr (inr e) ↦ rw e (by_column (less 4) vehicles (omega arith) (omega arith) (omega arith))
    ]

cheaper : (grade vehicles callouts : ℕ) → Lower grade → vehicles ≢ 0 → monthly_price grade vehicles callouts < monthly_price 2 vehicles callouts
unfolding monthly_price
cheaper grade vehicles callouts g some = omega (arith, mul-le-mul_right vehicles (rate-lt grade vehicles g))

pub brittle_2 : (n : ℕ) (opens : List ℕ) → 2 ≤ count n opens → OneUsable n opens → rota_grade n opens ≡ 2
unfolding rota_grade
brittle_2 n opens some b = ap (grade_of (count n opens)) (forced_into n opens b.0 b.1 b.2) ∙ grade_forced (count n opens) some

-- ---- answers by a number of plans and a figure

-- the figure is given if there is a plan; else the number is 9
record ByPlans {A : Type 0} (number : A → ℕ) (given refusal : ℕ → A) (by : ℕ → ℕ → A) : Type 0 where
  refused : (c : ℕ) → number (refusal c) ≡ c
  none : (x y : ℕ) → by 0 x ≡ by 0 y
  nine : (x : ℕ) → number (by 0 x) ≡ 9
  shown : (k x : ℕ) → by (suc k) x ≡ given x
  done : (x : ℕ) → number (given x) ≡ 0

module _ {A : Type 0} {number : A → ℕ} {given refusal : ℕ → A} {by : ℕ → ℕ → A} (B : ByPlans number given refusal by) where
  moved : {C : Type 0} (code k x y to : ℕ) → (code ≡ 0 → 0 < k → C → x ≡ to) → (code ≡ 0 → 0 < k → (x ≡ y) ⊎ C)
      → Moved C (number (unless refusal code (by k x))) (unless refusal code (by k y)) (unless refusal code (by k x)) (given y) (given to)
  unfolding unless
  moved zero zero x y to f g = record { moves = λ z c. absurd (omega (arith, sym (B.nine x) ∙ z)); stays = inl (B.none x y) }
  moved zero (suc k) x y to f g =
      record {
        moves = λ z c. (B.shown k y, B.shown k x ∙ ap given (f refl (omega arith) c));
        stays = elim (g refl (omega arith)) [ inl e ↦ inl (ap (by (suc k)) e) | inr c ↦ inr (ap number (B.shown k x) ∙ B.done x, c) ];
      }
  moved (suc c) k x y to f g = record { moves = λ z d. absurd (omega (arith, sym (B.refused (suc c)) ∙ z)); stays = inl refl }

  same_code : (code k x y : ℕ) → number (unless refusal code (by k x)) ≡ number (unless refusal code (by k y))
  unfolding unless
  same_code zero zero x y = ap number (B.none x y)
  same_code zero (suc k) x y = ap number (B.shown k x) ∙ B.done x ∙ sym (ap number (B.shown k y) ∙ B.done y)
  same_code (suc c) k x y = refl

  -- 0 only where nothing is refused and there is a plan
  on_success : (code k x : ℕ) → number (unless refusal code (by k x)) ≡ 0 → unless refusal code (by k x) ≡ given x
  unfolding unless
  on_success zero zero x z = absurd (omega (arith, sym (B.nine x) ∙ z))
  on_success zero (suc k) x z = B.shown k x
  on_success (suc c) k x z = absurd (omega (arith, sym (B.refused (suc c)) ∙ z))

  not-refused : (code : ℕ) (a : A) → number (unless refusal code a) ≡ 0 → code ≡ 0
  unfolding unless
  not-refused zero a z = refl
  not-refused (suc c) a z = sym (B.refused (suc c)) ∙ z

by_grade : (opens : List ℕ) → ByPlans (λ (a : GradeAnswer). a.code) grade_given grade_refused (grade_by opens)
unfolding grade_by
by_grade opens = search refl

by_price : (opens : List ℕ) → ByPlans (λ (a : PriceAnswer). a.code) price_given price_refused (price_by opens)
unfolding price_by
by_price opens = search refl

-- ---- from the grades to the answers

-- what a change does to the grade of an accepted rota that has a plan
pub record Change (before : ℕ → List ℕ → ℕ) (Concerned : ℕ → List ℕ → Type 0) : Type 0 where
  pub lower : (n : ℕ) (opens : List ℕ) → Concerned n opens → Lower (before n opens)
  pub to_2 : (n : ℕ) (opens : List ℕ) → Concerned n opens → rota_grade n opens ≡ 2
  pub else_same : (n : ℕ) (opens callouts : List ℕ) → table_code n n opens callouts ≡ 0 → 0 < count n opens
      → (rota_grade n opens ≡ before n opens) ⊎ Concerned n opens

module _ {before : ℕ → List ℕ → ℕ} {Concerned : ℕ → List ℕ → Type 0} (change : Change before Concerned) where
  module _ (n : ℕ) (opens callouts : List ℕ) {code : ℕ} (t : CodeTested n opens callouts code) where
    graded : Moved (Concerned n opens) (grade_unless code n opens).code (grade_was before code n opens) (grade_unless code n opens)
        (grade_given (before n opens)) (grade_given 2)
    unfolding grade_unless grade_was
    graded = moved (by_grade opens) code (count n opens) _ _ _ (λ z some. change.to_2 n opens) (λ z. change.else_same n opens callouts (t.tables z))

    kept : (grade_unless code n opens).code ≡ 0 → before n opens ≡ 2 → (grade_unless code n opens).grade ≡ 2
    unfolding grade_was
    kept z e =
        let grade : GradeAnswer → ℕ = λ a. a.grade in
        elim graded.stays [
          | inl s ↦ ap grade (s ∙ on_success (by_grade opens) code (count n opens) _ (sym (ap (λ (a : GradeAnswer). a.code) s) ∙ z)) ∙ e
          | inr x ↦ ap grade (graded.moves x.0 x.1).1
        ]

    grade-number : (grade_unless code n opens).code ≡ (grade_was before code n opens).code
    unfolding grade_unless grade_was
    grade-number = same_code (by_grade opens) code (count n opens) _ _

    module _ (vehicles : ℕ) where
      abbrev cents : ℕ → ℕ
      cents grade = monthly_price grade vehicles (fewest n opens callouts)

      priced : Moved (Concerned n opens) (price_unless code n opens callouts vehicles).code (price_was before code n opens callouts vehicles)
          (price_unless code n opens callouts vehicles) (price_given (cents (before n opens))) (price_given (cents 2))
      unfolding price_unless price_was
      priced =
          moved (by_price opens) code (count n opens) _ _ _ (λ z some c. ap cents (change.to_2 n opens c))
          (λ z some. elim (change.else_same n opens callouts (t.tables z) some) [ inl e ↦ inl (ap cents e) | inr c ↦ inr c ])

      price-number : (price_unless code n opens callouts vehicles).code ≡ (price_was before code n opens callouts vehicles).code
      unfolding price_unless price_was
      price-number = same_code (by_price opens) code (count n opens) _ _

      rises : (code ≡ 0 → vehicles ≢ 0) → (price_unless code n opens callouts vehicles).code ≡ 0 → Concerned n opens
          → (price_was before code n opens callouts vehicles).cents < (price_unless code n opens callouts vehicles).cents
      unfolding price_unless
      rises some z c =
          let both = priced.moves z c in
          let ok = not-refused (by_price opens) code _ z in
          rw (both.0, both.1) (cheaper (before n opens) vehicles (fewest n opens callouts) (change.lower n opens c) (some ok))

  -- no rota leaves grade 2
  pub keeps_2 : EachGrade (λ n opens callouts tally r new. r.code ≡ 0 → before n opens ≡ 2 → r.grade ≡ 2)
  unfolding grade_answer
  keeps_2 = grade_each _ (λ n o k tally. kept n o k (count_tested n o k (length tally)))

  pub regrading : Regrading before Concerned
  unfolding grade_answer grade_tally untallied_grade price_answer price_tally untallied_price price_code untallied_price_code
  regrading =
      let some : (c vehicles : ℕ) → or_else c (fleet_code vehicles) ≡ 0 → vehicles ≢ 0 = λ c v z. (fleet_passed v (neither_refuses c _ z).1).0 in
      record {
        grade = grade_each _ (λ n o k tally. graded n o k (count_tested n o k (length tally)));
        untallied-grade = untallied_grade_each _ (λ n o k. graded n o k (sized_tested n o k));
        price = price_each _ (λ n o k v tally. priced n o k (price_tested n o k v (length tally)) v);
        untallied-price = untallied_price_each _ (λ n o k v. priced n o k (untallied_price_tested n o k v) v);
        price_rises = price_each _ (λ n o k v tally. rises n o k (price_tested n o k v (length tally)) v (some (count_code n n o k (length tally)) v));
        untallied_price_rises = untallied_price_each _ (λ n o k v. rises n o k (untallied_price_tested n o k v) v (some (sized_code n n o k) v));
        grade-tally = grade_each _ (λ n o k tally. ap (λ c. written c (subset_counts n o) tally) (grade-number n o k (count_tested n o k (length tally))));
        price-tally = price_each _ (λ n o k v tally. ap (λ c. written c (subset_counts n o) tally) (price-number n o k (price_tested n o k v (length tally)) v));
      }
