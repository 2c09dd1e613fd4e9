-- What the calls that look for plans answer, by number: refused by a low one, or made from a list of plans, empty or not. Assumes nothing.
use mathlib.Core.Path.{◌≡◌, refl, sym, ap, ◌∙◌}
use mathlib.Core.Logic.{◌≢◌}
use mathlib.Core.Bool.{Bool, true, false, not, cond, ◌||◌}
use mathlib.Core.List.{List, [], ◌∷◌, nil≢cons}
use Prim.Native.Nat.{ℕ, zero, suc, ◌^◌, ◌≤◌, ◌<◌}
use native.Mathlib.Omega.{arith}
use borrow.Author.Tests.{leb-true}
use lib.Dec.{eqb, ltb, leb}
use lib.ListN.{length}
use Rattle.model.specs.declared.Plan.{Plan}
use Rattle.model.specs.declared.PlanAnswer.{PlanAnswer}
use Rattle.model.specs.declared.GradeAnswer.{GradeAnswer}
use Rattle.model.specs.declared.PriceAnswer.{PriceAnswer}
use Rattle.model.specs.declared.Lister.{Lister}
use Rattle.model.specs.Lists.{any}
use Rattle.model.specs.Refusal.{or_else, unless, fleet_code, plan_code}
use Rattle.model.specs.Rota.{stray_callout, cell_code, table_code}
use Rattle.model.specs.Plans.{plans, is_plan, plans_after}
use Rattle.model.specs.Fewest.{fewest, fewest_plans}
use Rattle.model.specs.Deficiency.{deficiency, deficient_set}
use Rattle.model.specs.Count.{count, permanent}
use Rattle.model.specs.Grade.{some_forced, grade_of, rota_grade, monthly_price}
use Rattle.model.specs.PlanAnswers.{given, refused, short, over_cap, no_plan, first_of, first_from, first_answer, next_of, next_from, next_answer, fewest_of, fewest_from}
use Rattle.model.specs.PlanAnswers.{fewest_answer}
use Rattle.model.specs.Lister.{lister_answer}
use Rattle.model.specs.CountAnswers.{sized_code, count_code}
use Rattle.model.specs.PriceAnswers.{grade_refused, grade_by, grade_unless, price_refused, price_by, price_unless, untallied_price_code, price_code}
use Rattle.model.proofs.Members.{of_cond}
use Rattle.model.proofs.Refusals.{neither_refuses}
use Rattle.model.proofs.Accepted.{tables-from}
use Rattle.model.proofs.Permanent.{permanent_is_count}
use Rattle.model.proofs.Fewest.{fewest_empty}
use Rattle.demands.specs.Demand1.{Refused}
use Rattle.demands.specs.Demand2.{IsFirst, IsNext, IsFewest, IsFewestPlan, IsShort, Graded, Priced}
use Rattle.demands.proofs.Definitions.{first_is, next_is, fewest_is, is_fewest, short_is, forced_is}

-- ---- the tests before 8 give lower numbers

cond-low : (b : Bool) (c x : ℕ) → c ≤ 7 → x ≤ 7 → cond b c x ≤ 7
cond-low true c x h l = h
cond-low false c x h l = l

or-low : (a b : ℕ) → a ≤ 7 → b ≤ 7 → or_else a b ≤ 7
unfolding or_else
or-low zero b h l = l
or-low (suc a) b h l = h

-- the number of tests before 8, those of the tables among them
pub record CodeTested (n : ℕ) (opens callouts : List ℕ) (code : ℕ) : Type 0 where
  pub low : code ≤ 7
  pub tables : code ≡ 0 → table_code n n opens callouts ≡ 0

module _ (n : ℕ) (opens callouts : List ℕ) where
  table-low : table_code n n opens callouts ≤ 7
  unfolding table_code cell_code
  table-low =
      cond-low (eqb n 0 || ltb 64 n) 1 _ (omega arith) (cond-low (not (eqb (length opens) n) || not (eqb (length callouts) n)) 2 _ (omega arith)
      (cond-low (any (λ w. leb (2 ^ n) w) opens) 3 _ (omega arith) (cond-low (stray_callout opens callouts) 4 0 (omega arith) (omega arith))))

  -- one test more
  then_tested : (a b : ℕ) → CodeTested n opens callouts a → b ≤ 7 → CodeTested n opens callouts (or_else a b)
  then_tested a b t h = record { low = or-low a b t.low h; tables = λ z. t.tables (neither_refuses a b z).0 }

  pub sized_tested : CodeTested n opens callouts (sized_code n n opens callouts)
  unfolding sized_code
  sized_tested = then_tested _ _ (record { low = table-low; tables = λ z. z }) (cond-low (ltb 20 n) 5 0 (omega arith) (omega arith))

  fleet_low : (vehicles : ℕ) → fleet_code vehicles ≤ 7
  fleet_low vehicles = cond-low (eqb vehicles 0 || ltb 10000 vehicles) 7 0 (omega arith) (omega arith)

  pub untallied_price_tested : (vehicles : ℕ) → CodeTested n opens callouts (untallied_price_code n n opens callouts vehicles)
  unfolding untallied_price_code
  untallied_price_tested vehicles = then_tested _ _ sized_tested (fleet_low vehicles)

  pub count_tested : (words : ℕ) → CodeTested n opens callouts (count_code n n opens callouts words)
  unfolding count_code
  count_tested words = then_tested _ _ sized_tested (cond-low (ltb words (2 ^ n)) 6 0 (omega arith) (omega arith))

  pub price_tested : (vehicles words : ℕ) → CodeTested n opens callouts (price_code n n opens callouts vehicles words)
  unfolding price_code
  price_tested vehicles words = then_tested _ _ (count_tested words) (fleet_low vehicles)

-- ---- the law of all of them

outcome : {A : Type 0} (P : A → Type 0) (refusal : ℕ → A) (code : ℕ) (make : List (List ℕ) → A) (l : List (List ℕ)) → code ≤ 7
    → ((c : ℕ) → c < 7 → P (refusal (suc c))) → (code ≡ 0 → l ≡ [] → P (make []))
    → (code ≡ 0 → (p : List ℕ) (rest : List (List ℕ)) → l ≡ p ∷ rest → P (make (p ∷ rest))) → P (unless refusal code (make l))
unfolding unless
outcome P refusal zero make [] h stop none some = none refl refl
outcome P refusal zero make (p ∷ l) h stop none some = some refl p l refl
outcome P refusal (suc c) make l h stop none some = stop c (omega arith)

-- an answer, or 8
of_plan : (P : PlanAnswer → Type 0) (b : Bool) {a : PlanAnswer} → P a → P (refused 8) → P (unless refused (plan_code b) a)
unfolding unless
of_plan P true f g = f
of_plan P false f g = g

is_short : (n : ℕ) (opens callouts : List ℕ) → table_code n n opens callouts ≡ 0 → plans n opens ≡ [] → IsShort opens (deficiency opens) (deficient_set opens)
is_short n opens callouts ok = short_is n n opens callouts ok (tables-from n n opens callouts ok).few-items

-- ---- plans

-- an answer for a plan: Good on success, Over of the number that comes with 11
pub record Says (opens : List ℕ) (Good : PlanAnswer → Type 0) (Over : ℕ → Type 0) (a : PlanAnswer) : Type 0 where
  pub on_refusal : a.code ≢ 0 → Refused a
  pub on_success : a.code ≡ 0 → Good a
  pub on_9 : a.code ≡ 9 → IsShort opens a.shortage a.items
  pub on_11 : a.code ≡ 11 → Over a.callouts

module _ {opens : List ℕ} {Good : PlanAnswer → Type 0} {Over : ℕ → Type 0} where
  says_refused : (c : ℕ) → c ≢ 8 → c < 10 → Says opens Good Over (refused (suc c))
  says_refused c h l =
      record { on_refusal = λ d. search refl; on_success = λ z. absurd (omega arith); on_9 = λ z. absurd (h (omega arith)); on_11 = λ z. absurd (omega arith) }

  low : (c : ℕ) → c < 7 → Says opens Good Over (refused (suc c))
  low c h = says_refused c (λ e. omega arith) (omega arith)

  says_given : {p : List ℕ} {k : ℕ} → Good (given p k) → Says opens Good Over (given p k)
  says_given g = record { on_refusal = λ d. absurd (d refl); on_success = λ z. g; on_9 = λ z. absurd (omega arith); on_11 = λ z. absurd (omega arith) }

  says_short : {by set : ℕ} → IsShort opens by set → Says opens Good Over (short by set)
  says_short s =
      let zeros : Refused (short _ _) = record { plan = refl; shortage = λ x. absurd (x refl); items = λ x. absurd (x refl); callouts = λ x. refl } in
      record { on_refusal = λ d. zeros; on_success = λ z. absurd (omega arith); on_9 = λ z. s; on_11 = λ z. absurd (omega arith) }

  says_over : {k : ℕ} → Over k → Says opens Good Over (over_cap k)
  says_over o =
      let zeros : Refused (over_cap _) = record { plan = refl; shortage = λ x. refl; items = λ x. refl; callouts = λ x. absurd (x refl) } in
      record { on_refusal = λ d. zeros; on_success = λ z. absurd (omega arith); on_9 = λ z. absurd (omega arith); on_11 = λ z. o }

  weaker : {Good' : PlanAnswer → Type 0} {a : PlanAnswer} → Says opens Good Over a → (Good a → Good' a) → Says opens Good' Over a
  weaker s f = record { on_refusal = s.on_refusal; on_success = λ z. f (s.on_success z); on_9 = s.on_9; on_11 = s.on_11 }

module _ (n : ℕ) (opens callouts : List ℕ) where
  pub first_says : Says opens (λ a. IsFirst opens a.plan.slots × (a.shortage ≡ 0) × (a.items ≡ 0) × (a.callouts ≡ 0)) (λ k. ⊥)
      (first_answer n n opens callouts)
  unfolding first_answer first_from first_of no_plan
  first_says =
      outcome (Says opens _ _) refused (table_code n n opens callouts) (first_of opens) (plans n opens) (table-low n opens callouts) low
      (λ ok e. says_short (is_short n opens callouts ok e)) (λ ok p l e. says_given (first_is n n opens callouts ok p l e, refl, refl, refl))

  pub next_says : (g : Plan) → Says opens (λ a. IsNext opens g.slots a.plan.slots × (a.shortage ≡ 0) × (a.items ≡ 0) × (a.callouts ≡ 0)) (λ k. ⊥)
      (next_answer n n opens callouts g)
  unfolding next_answer next_from next_of
  next_says g =
      let is = is_plan n opens g.slots in
      let no-plan : Says opens _ _ (refused 8) = says_refused 7 (λ e. omega arith) (omega arith) in
      outcome (Says opens _ _) refused (table_code n n opens callouts) (λ l. unless refused (plan_code is) (next_of l)) (plans_after n opens g.slots)
      (table-low n opens callouts) low (λ ok e. of_plan (Says opens _ _) is (says_refused 9 (λ e. omega arith) (omega arith)) no-plan)
      (λ ok p l e. of_plan (Says opens _ _) is (says_given (next_is n n opens callouts ok g.slots p l e, refl, refl, refl)) no-plan)

  -- fresh as the first plan, started as the next
  pub list_says : (e : Lister) → Says opens (λ a. (a.shortage ≡ 0) × (a.items ≡ 0) × (a.callouts ≡ 0)) (λ k. ⊥) (lister_answer e n n opens callouts)
  unfolding lister_answer
  list_says e =
      of_cond (Says opens _ _) e.started
      (λ y. weaker (next_says e.plan) (λ g. (g.1, g.2, g.3))) (λ y. weaker first_says (λ g. (g.1, g.2, g.3)))

  pub fewest_says : (cap : ℕ) → Says opens
      (λ a. IsFewestPlan opens callouts a.plan.slots a.callouts × (a.callouts ≤ cap) × (a.shortage ≡ 0) × (a.items ≡ 0)) (IsFewest opens callouts)
      (fewest_answer n n opens callouts cap)
  unfolding fewest_answer fewest_from fewest_of no_plan
  fewest_says cap =
      let number = fewest n opens callouts in
      outcome (Says opens _ _) refused (table_code n n opens callouts) (fewest_of opens cap number) (fewest_plans n opens callouts)
      (table-low n opens callouts) low (λ ok e. says_short (is_short n opens callouts ok (fewest_empty n opens callouts e)))
      (λ ok p l e. of_cond (Says opens _ _) (leb number cap) (λ y. says_given (fewest_is n n opens callouts ok p l e, leb-true number cap y, refl, refl))
      (λ y. says_over (is_fewest n n opens callouts ok p l e)))

-- ---- grade and price

module _ (n : ℕ) (opens callouts : List ℕ) where
  graded_is : table_code n n opens callouts ≡ 0 → (p : List ℕ) (l : List (List ℕ)) → plans n opens ≡ p ∷ l
      → Graded (permanent n opens) opens (rota_grade n opens)
  unfolding rota_grade count
  graded_is ok p l e =
      let P = permanent_is_count n opens in
      record {
        some = omega (arith, P, ap length e);
        some-brittle = some_forced n opens;
        brittle = forced_is n n opens callouts ok p (first_is n n opens callouts ok p l e).plan;
        rules = ap (λ x. grade_of x (some_forced n opens)) (sym P);
      }

  some-fewest : table_code n n opens callouts ≡ 0 → (p : List ℕ) (l : List (List ℕ)) → plans n opens ≡ p ∷ l → IsFewest opens callouts (fewest n opens callouts)
  some-fewest ok p l e = elim (fewest_plans n opens callouts) as (λ f. fewest_plans n opens callouts ≡ f → IsFewest opens callouts (fewest n opens callouts))
      [ [] ↦ λ q. absurd (nil≢cons (sym (fewest_empty n opens callouts q) ∙ e)) | x ∷ f ↦ λ q. is_fewest n n opens callouts ok x f q ] refl

  abbrev GradeSays : GradeAnswer → Type 0
  GradeSays a =
      (a.code ≢ 0 → (a.grade ≡ 0) × (a.code ≢ 9 → (a.shortage ≡ 0) × (a.items ≡ 0)))
      × (a.code ≡ 0 → Graded (permanent n opens) opens a.grade × (a.shortage ≡ 0) × (a.items ≡ 0))
      × (a.code ≡ 9 → IsShort opens a.shortage a.items)

  pub grade_says : {code : ℕ} → CodeTested n opens callouts code → GradeSays (grade_unless code n opens)
  unfolding grade_unless grade_by count
  grade_says {code} t =
      outcome GradeSays grade_refused code (λ l. grade_by opens (length l) (rota_grade n opens)) (plans n opens) t.low
      (λ c h. (λ d. (refl, λ x. (refl, refl)), λ z. absurd (omega arith), λ z. absurd (omega arith)))
      (λ ok e. (λ d. (refl, λ x. absurd (x refl)), λ z. absurd (omega arith), λ z. is_short n opens callouts (t.tables ok) e))
      (λ ok p l e. (λ d. absurd (d refl), λ z. (graded_is (t.tables ok) p l e, refl, refl), λ z. absurd (omega arith)))

  module _ {code : ℕ} (t : CodeTested n opens callouts code) (vehicles : ℕ) where
    abbrev PriceSays : PriceAnswer → Type 0
    PriceSays a =
        (a.code ≢ 0 → (a.cents ≡ 0) × (a.code ≢ 9 → (a.shortage ≡ 0) × (a.items ≡ 0)))
        × (a.code ≡ 0 → Priced n opens callouts vehicles a.cents × (a.shortage ≡ 0) × (a.items ≡ 0))
        × (a.code ≡ 9 → IsShort opens a.shortage a.items)

    pub price_says : PriceSays (price_unless code n opens callouts vehicles)
    unfolding price_unless price_by monthly_price count
    price_says =
        let cents = monthly_price (rota_grade n opens) vehicles (fewest n opens callouts) in
        outcome PriceSays price_refused code (λ l. price_by opens (length l) cents) (plans n opens) t.low
        (λ c h. (λ d. (refl, λ x. (refl, refl)), λ z. absurd (omega arith), λ z. absurd (omega arith)))
        (λ ok e. (λ d. (refl, λ x. absurd (x refl)), λ z. absurd (omega arith), λ z. is_short n opens callouts (t.tables ok) e))
        (λ ok p l e.
        let fine = t.tables ok in
        (λ d. absurd (d refl), λ z. ((_, _, graded_is fine p l e, some-fewest fine p l e, refl), refl, refl), λ z. absurd (omega arith)))
