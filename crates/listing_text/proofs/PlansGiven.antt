-- The lines of the plans that a lister gives one after the other, and the last line. Assumes nothing.
use mathlib.Core.Path.{◌≡◌, refl, sym, ap, ap₂, ◌∙◌, subst}
use mathlib.Core.Logic.{◌≢◌, ◌⊎◌, ⊎_elim}
use mathlib.Core.Bool.{cond}
use mathlib.Core.List.{List, [], ◌∷◌, ◌++◌, append_assoc}
use Prim.Native.Nat.{ℕ, suc, ◌+◌, ◌-◌, ◌<◌, ◌≤◌}
use native.Mathlib.Nat.{zero-add, add-zero}
use native.Mathlib.Omega.{arith}
use native.Mathlib.Numerals.{add-one}
use native.Mathlib.Decide.{ℕ_discrete}
use borrow.Author.Tests.{le-leb, lt-leb, ne_eqb}
use lib.Dec.{leb}
use lib.ListN.{length, take}
use lib.Seq.{take-nil}
use Rattle.model.specs.declared.PlanAnswer.{PlanAnswer}
use Rattle.model.specs.declared.Lister.{Lister}
use Rattle.model.specs.Rota.{table_code}
use Rattle.model.specs.Plans.{plans}
use Rattle.model.specs.PlanAnswers.{given}
use Rattle.model.specs.Lister.{lister_answer, lister_after, stored}
use Rattle.model.specs.Listing.{IsListing}
use Rattle.model.specs.ListingText.{last_line, plan_line, plan_lines}
use Rattle.model.proofs.Listing.{plans_listed}
use Rattle.rota.specs.declared.lister.Stepped.{Stepped}
use Rattle.rota.specs.Step.{step_of}
use Rattle.listing_text.specs.declared.Page.{Page}
use Rattle.listing_text.specs.Writing.{RoomFor, Put, end_or_more, fresh, first_step, after_first}
use Rattle.listing_text.proofs.Begun.{Begun, begin, fits, more}

-- ---- what is left to write after k plans

abbrev pub left_after : List ℕ → ℕ → List (List ℕ) → List ℕ
left_after callouts k rest = plan_lines callouts (suc k) (take (1000 - k) rest) ++ last_line (k + length rest)

-- the definitions' equations, so that no proof below opens a number's digits
no_lines : (callouts : List ℕ) (k : ℕ) → plan_lines callouts k [] ≡ []
unfolding plan_lines
no_lines callouts k = refl

line_first : (callouts : List ℕ) (k : ℕ) (p : List ℕ) (rest : List (List ℕ))
    → plan_lines callouts k (p ∷ rest) ≡ plan_line callouts k p ++ plan_lines callouts (suc k) rest
unfolding plan_lines
line_first callouts k p rest = refl

last_is : (count : ℕ) → last_line count ≡ cond (leb count 1000) (end_or_more count 1) (end_or_more 1000 0)
unfolding last_line
last_is count = refl

module _ (callouts : List ℕ) (k : ℕ) where
  left_more : (p : List ℕ) (rest : List (List ℕ)) → k < 1000 → left_after callouts k (p ∷ rest) ≡ plan_line callouts (suc k) p ++ left_after callouts (suc k) rest
  left_more p rest h =
      let one : 1000 - k ≡ suc (1000 - suc k) = omega arith in
      let count : k + suc (length rest) ≡ suc k + length rest = omega arith in
      ap₂ (λ j c. plan_lines callouts (suc k) (take j (p ∷ rest)) ++ last_line c) one count
      ∙ ap (◌++ last_line (suc k + length rest)) (line_first callouts (suc k) p (take (1000 - suc k) rest))
      ∙ append_assoc (plan_line callouts (suc k) p) (plan_lines callouts (suc (suc k)) (take (1000 - suc k) rest)) (last_line (suc k + length rest))

  -- no plan is left
  left_end : (code : ℕ) → code ≢ 0 → k ≤ 1000 → left_after callouts k [] ≡ end_or_more k code
  left_end code d h =
      ap₂ (λ l c. plan_lines callouts (suc k) l ++ last_line c) (take-nil {A = List ℕ} (1000 - k)) (add-zero k)
      ∙ ap (◌++ last_line k) (no_lines callouts (suc k)) ∙ last_is k
      ∙ rw (le-leb k 1000 h, ne_eqb code 0 d)

  -- one more than are listed
  left_over : (p : List ℕ) (rest : List (List ℕ)) → k ≡ 1000 → left_after callouts k (p ∷ rest) ≡ end_or_more k 0
  left_over p rest e =
      let none : 1000 - k ≡ 0 = omega arith in
      ap (λ j. plan_lines callouts (suc k) (take j (p ∷ rest)) ++ last_line (k + suc (length rest))) none
      ∙ ap (◌++ last_line (k + suc (length rest))) (no_lines callouts (suc k)) ∙ last_is (k + suc (length rest))
      ∙ ap (λ b. cond b (end_or_more (k + suc (length rest)) 1) (end_or_more 1000 0)) (lt-leb (k + suc (length rest)) 1000 (omega arith))
      ∙ ap (λ j. end_or_more j 0) (sym e)

-- ---- the lister has given k plans

abbrev pub answer_of : List ℕ → List ℕ → Lister → PlanAnswer
answer_of opens callouts e = lister_answer e (length opens) (length opens) opens callouts

-- s is the step after k plans, and what they write is written
pub record Given (opens callouts : List ℕ) (p q : Page) (s : Stepped) (k : ℕ) : Type 0 where
  pub listed : k ≤ 1000
  pub lister : Lister
  pub rest : List (List ℕ)
  pub step : s ≡ step_of lister (length opens) (length opens) opens callouts
  pub listing : IsListing (answer_of opens callouts) lister rest
  pub begun : Begun (after_first opens callouts) (left_after callouts k rest) p q

module _ (opens callouts : List ℕ) (ok : table_code (length opens) (length opens) opens callouts ≡ 0) where
  -- a fresh lister lists all plans
  pub all_listed : IsListing (answer_of opens callouts) fresh (plans (length opens) opens)
  all_listed = ((plans_listed (length opens) (length opens) opens callouts ok).listing fresh refl (plans (length opens) opens)).1 refl

  pub given-none : {p : Page} → RoomFor (after_first opens callouts) p → {s : Stepped} → s ≡ first_step opens callouts → Given opens callouts p p s 0
  given-none room q =
      let all = plans (length opens) opens in
      record {
        listed = omega arith;
        lister = fresh;
        rest = all;
        step = q;
        listing = all_listed;
        begun = rw (zero-add (length all)) (begin room);
      }

-- the plan that a lister gives next, and the listing after it
pub record NextPlan (answer : Lister → PlanAnswer) (e : Lister) (rest : List (List ℕ)) : Type 0 where
  pub plan : List ℕ
  pub others : List (List ℕ)
  pub first : rest ≡ plan ∷ others
  pub gives : answer e ≡ given plan 0
  pub listing : IsListing answer (stored e (answer e)) others

pub next-plan : (answer : Lister → PlanAnswer) (e : Lister) (rest : List (List ℕ)) → IsListing answer e rest → (answer e).code ≡ 0 → NextPlan answer e rest
next-plan answer e [] l z = absurd (l z)
next-plan answer e (p ∷ rest) l z = record { plan = p; others = rest; first = refl; gives = l.0; listing = l.1 }

pub no-plan : (answer : Lister → PlanAnswer) (e : Lister) (rest : List (List ℕ)) → IsListing answer e rest → (answer e).code ≢ 0 → rest ≡ []
no-plan answer e [] l d = refl
no-plan answer e (p ∷ rest) l d = absurd (d (ap (λ a. a.code) l.0))

module _ {opens callouts : List ℕ} {p q : Page} {s : Stepped} {k : ℕ} (g : Given opens callouts p q s k) where
  abbrev text : List ℕ
  text = after_first opens callouts

  answer_is : s.answer ≡ answer_of opens callouts g.lister
  unfolding step_of
  answer_is = ap (λ (x : Stepped). x.answer) g.step

  lister_is : s.lister ≡ stored g.lister (answer_of opens callouts g.lister)
  unfolding step_of lister_after
  lister_is = ap (λ (x : Stepped). x.lister) g.step

  code_is : s.answer.code ≡ (answer_of opens callouts g.lister).code
  code_is = ap (λ a. a.code) answer_is

  -- the step was refused: no plan is left
  pub given_end : s.answer.code ≢ 0 → Begun text (end_or_more k s.answer.code) p q
  given_end d =
      let none = no-plan (answer_of opens callouts) g.lister g.rest g.listing (λ z. d (code_is ∙ z)) in
      subst (λ l. Begun text l p q) (ap (left_after callouts k) none ∙ left_end callouts k s.answer.code d g.listed) g.begun

  module _ (z : s.answer.code ≡ 0) where
    next : NextPlan (answer_of opens callouts) g.lister g.rest
    next = next-plan (answer_of opens callouts) g.lister g.rest g.listing (sym code_is ∙ z)

    -- after 1,000 plans, and one more
    pub given-over : k ≡ 1000 → Begun text (end_or_more k s.answer.code) p q
    given-over e =
        subst (λ l. Begun text l p q)
        (ap (left_after callouts k) next.first ∙ left_over callouts k next.plan next.others e ∙ ap (end_or_more k) (sym z)) g.begun

    module _ (h : k < 1000) where
      abbrev slots : List ℕ
      slots = s.answer.plan.slots

      line-next : Begun text (plan_line callouts (k + 1) slots ++ left_after callouts (suc k) next.others) p q
      line-next =
          let same : next.plan ≡ slots = sym (ap (λ a. a.plan.slots) (answer_is ∙ next.gives)) in
          subst (λ l. Begun text l p q)
          (ap (left_after callouts k) next.first ∙ left_more callouts k next.plan next.others h
          ∙ ap₂ (λ j r. plan_line callouts j r ++ left_after callouts (suc k) next.others) (sym (add-one k)) same)
          g.begun

      pub line-fits : RoomFor (plan_line callouts (k + 1) slots) q
      line-fits = fits (plan_line callouts (k + 1) slots) (left_after callouts (suc k) next.others) line-next

      pub given-more : {r : Page} → Put (plan_line callouts (k + 1) slots) q r → {s' : Stepped}
          → s' ≡ step_of s.lister (length opens) (length opens) opens callouts
          → Given opens callouts p r s' (k + 1)
      given-more w {s'} q' =
          record {
            listed = omega arith;
            lister = s.lister;
            rest = next.others;
            step = q';
            listing = subst (λ e. IsListing (answer_of opens callouts) e next.others) (sym lister_is) next.listing;
            begun = rw add-one (more (plan_line callouts (k + 1) slots) (left_after callouts (suc k) next.others) line-next w);
          }

  -- the loop ends at 1,000 plans, or where the step was refused
  pub given_last : (1000 ≤ k) ⊎ (s.answer.code ≢ 0) → Begun text (end_or_more k s.answer.code) p q
  given_last way = elim (ℕ_discrete s.answer.code 0) [
    | yes z ↦ given-over z (⊎_elim (λ h. let l = g.listed in omega arith) (λ d. absurd (d z)) way)
    | no d ↦ given_end d
  ]
