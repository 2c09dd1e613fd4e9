-- Count and grade of n items and m slots, from what their tests found and from the search for a plan: the answers by the number of the first
-- refusal, which is what calls with a tally and without one share. Assumes nothing.
use mathlib.Core.Path.{◌≡◌, refl, sym, ap, ap₂, ◌∙◌, subst}
use mathlib.Core.Logic.{◌≢◌}
use mathlib.Core.List.{List, [], ◌∷◌}
use Prim.Native.Nat.{ℕ, zero, suc, ◌≤◌, ◌<◌}
use native.Mathlib.Omega.{arith}
use lib.ListN.{length}
use Rattle.model.specs.declared.PlanAnswer.{PlanAnswer}
use Rattle.model.specs.declared.CountAnswer.{CountAnswer}
use Rattle.model.specs.declared.GradeAnswer.{GradeAnswer}
use Rattle.model.specs.Refusal.{unless}
use Rattle.model.specs.Plans.{plans}
use Rattle.model.specs.Count.{count}
use Rattle.model.specs.Grade.{some_forced, grade_of, rota_grade}
use Rattle.model.specs.PlanAnswers.{first_from, first_of, no_plan}
use Rattle.model.specs.CountAnswers.{count_refused, count_unless, sized_code}
use Rattle.model.specs.PriceAnswers.{grade_given, grade_refused, grade_short, grade_by, grade_unless}
use Rattle.model.proofs.Refusals.{sized_passed, accepted-answer}
use Rattle.model.proofs.Slots.{first_wide, forced_wide}
use Rattle.rota.proofs.TableCalls.{Passed}

-- what a call's tests leave, those up to 5 among them, when they find nothing; code is their number
pub record Countable (n m : ℕ) (opens callouts : List ℕ) (code : ℕ) : Type 0 where
  pub none : code ≡ 0
  pub passed : Passed n m opens callouts
  pub few : m ≤ 20

pub countable : (n m : ℕ) (opens callouts : List ℕ) {code : ℕ} → code ≡ 0 → sized_code n m opens callouts ≡ 0 → Countable n m opens callouts code
countable n m opens callouts z sized =
    let s = sized_passed n m opens callouts sized in
    record { none = z; passed = record { code = s.0; slots = omega (arith, s.1) }; few = s.1 }

-- what an answer with a plan, or with 9, says of the number of plans
pub record TellsCount (m : ℕ) (opens : List ℕ) (a : PlanAnswer) : Type 0 where
  pub none : a.code ≢ 0 → (a ≡ no_plan opens) × (count m opens ≡ 0)
  pub some : a.code ≡ 0 → 0 < count m opens

first_says : (m : ℕ) (opens : List ℕ) (a : PlanAnswer) → a ≡ first_from m opens → TellsCount m opens a
unfolding first_from count first_of no_plan
first_says m opens a ea = go (plans m opens) refl ea
  where
    go : (l : List (List ℕ)) → plans m opens ≡ l → a ≡ first_of opens l → TellsCount m opens a
    go [] q e = record { none = λ d. (e, ap length q); some = λ z. absurd (omega (arith, sym (ap (λ (x : PlanAnswer). x.code) e) ∙ z)) }
    go (p ∷ l) q e = record { none = λ d. absurd (d (ap (λ (x : PlanAnswer). x.code) e)); some = λ z. omega (arith, ap length q) }

-- ---- counted

pub counted : {n m : ℕ} {opens callouts : List ℕ} {code : ℕ} → Countable n m opens callouts code → {number : ℕ} → number ≡ count m opens
    → {a : CountAnswer} → a ≡ record { code = 0; count = number } → a ≡ count_unless code m opens
unfolding count_unless
counted able q e =
    let whole : ℕ → CountAnswer = λ x. record { code = 0; count = x } in
    e ∙ ap whole q ∙ accepted-answer _ able.none count_refused _

-- ---- graded

module _ {n m : ℕ} {opens callouts : List ℕ} where
  says : Passed n m opens callouts → {found : PlanAnswer} → found ≡ first_from 64 opens → TellsCount m opens found
  says p {found} e = first_says m opens found (e ∙ first_wide n m opens callouts p.code p.slots)

  -- refused, or 9 by what the search found
  pub grade_ends : (code : ℕ) → (code ≡ 0 → Passed n m opens callouts) → (found : PlanAnswer) → (code ≡ 0 → (found ≡ first_from 64 opens) × (found.code ≢ 0))
      → {a : GradeAnswer} → a ≡ unless grade_refused code (grade_short found.shortage found.items) → (a ≡ grade_unless code m opens) × (a.code ≢ 0)
  unfolding grade_unless unless no_plan grade_by
  grade_ends zero P found F q =
      let none = (says (P refl) (F refl).0).none (F refl).1 in
      let short : PlanAnswer → GradeAnswer = λ x. grade_short x.shortage x.items in
      let by : ℕ → GradeAnswer = λ k. grade_by opens k (rota_grade m opens) in
      (q ∙ ap short none.0 ∙ sym (ap by none.1), λ z. omega (arith, z, ap (λ (x : GradeAnswer). x.code) q))
  grade_ends (suc k) P found F q = (q, λ z. omega (arith, z, ap (λ (x : GradeAnswer). x.code) q))

  module _ {code : ℕ} (able : Countable n m opens callouts code) {found : PlanAnswer} (e : found ≡ first_from 64 opens) (z : found.code ≡ 0)
      {number : ℕ} (q : number ≡ count m opens) where
    pub some-plan : 0 < number
    some-plan = subst (0 <◌) (sym q) ((says able.passed e).some z)

    pub graded : {g : ℕ} → g ≡ grade_of number (some_forced 64 opens) → {a : GradeAnswer} → a ≡ grade_given g → a ≡ grade_unless code m opens
    unfolding grade_unless grade_by rota_grade
    graded {g} eg w =
        let forced = forced_wide n m opens callouts able.passed.code able.passed.slots in
        w ∙ go (count m opens) ((says able.passed e).some z)
        ∙ ap (grade_by opens (count m opens)) (eg ∙ ap₂ grade_of q forced) ∙ accepted-answer code able.none grade_refused _
      where
        go : (k : ℕ) → 0 < k → grade_given g ≡ grade_by opens k g
        go zero h = absurd (omega arith)
        go (suc k) h = refl
