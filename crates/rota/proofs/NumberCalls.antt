-- A plan by its number and a plan's number, of n items and as many slots: answer and tally, from what the tests found. Assumes nothing.
use mathlib.Core.Path.{◌≡◌, refl, sym, ap, ◌∙◌, subst}
use mathlib.Core.Bool.{cond}
use mathlib.Core.List.{List}
use Prim.Native.Nat.{ℕ, ◌^◌, ◌≤◌, ◌<◌}
use borrow.Author.Tests.{le-leb, lt-leb}
use lib.ListN.{length, get_or}
use Rattle.std.specs.Prelude.{Err}
use Rattle.model.specs.declared.Refusal.{Refusal}
use Rattle.model.specs.declared.Plan.{Plan}
use Rattle.model.specs.declared.PlanAnswer.{PlanAnswer}
use Rattle.model.specs.declared.NumberAnswer.{NumberAnswer}
use Rattle.model.specs.Refusal.{written, plan_code, number, code_of}
use Rattle.model.specs.Plans.{IsPlan}
use Rattle.model.specs.PlanAnswers.{given, refused}
use Rattle.model.specs.Count.{count, last_counts}
use Rattle.model.specs.CountAnswers.{count_code}
use Rattle.model.specs.Ranks.{unrank, rank}
use Rattle.model.specs.NumberAnswers.{plan_at_code, plan_at_answer, plan_at_tally, number_given, number_refused, plan_number_code, plan_number_answer, plan_number_tally}
use Rattle.model.proofs.Laws.{few, range, is-plan, is_no_plan}
use Rattle.model.proofs.Refusals.{or_later, stops, code-refused, accepted-answer}
use Rattle.rank.specs.LastTally.{LastTally, Square}
use Rattle.rank.proofs.LastWritten.{last_tally}
use Rattle.rota.proofs.Countable.{Countable}
use Rattle.rota.proofs.NoTally.{rows, few-rows}
use Rattle.rota.proofs.Tallies.{refused-keeps, writes}

-- ---- from tables that passed, and a tally of the last items

module _ {n : ℕ} {opens callouts : List ℕ} {code : ℕ} (able : Countable n n opens callouts code) where
  pub square_table : Square opens
  square_table i h = subst (λ m. get_or opens i 0 < 2 ^ m) (sym (rows able)) (range n n opens callouts able.passed.code i h)

  pub enough_words : {words : ℕ} → 2 ^ n ≤ words → 2 ^ length opens ≤ words
  enough_words {words} h = subst (λ m. 2 ^ m ≤ words) (sym (rows able)) h

  pub ready_table : (old : List ℕ) {new : List ℕ} → new ≡ written 0 (last_counts (length opens) opens) old → LastTally opens new
  ready_table old = last_tally opens old (few-rows able)

  lasts : (old : List ℕ) {new : List ℕ} → new ≡ written 0 (last_counts (length opens) opens) old → new ≡ written 0 (last_counts n opens) old
  lasts old q = q ∙ ap (λ m. written 0 (last_counts m opens) old) (rows able)

-- ---- plan number k

module _ (n : ℕ) (opens callouts : List ℕ) (k : ℕ) (old : List ℕ) where
  abbrev Planned : PlanAnswer → List ℕ → Type 0
  Planned r new = record { answer : r ≡ plan_at_answer n n opens callouts k (length old); tally : new ≡ plan_at_tally n n opens callouts k old }

  refuses : (r : Refusal) → number r ≡ plan_at_code n n opens callouts k (length old) → {a : PlanAnswer} → a ≡ refused (number r) → Planned a old
  unfolding plan_at_answer plan_at_tally code_of
  refuses = refused-keeps (λ (a : PlanAnswer). a.code) refused (λ c. refl) _ _ _ old

  pub plan-at-refused : (r : Refusal) → code_of {A = Unit {0}} (Err r) ≡ count_code n n opens callouts (length old)
      → {a : PlanAnswer} → a ≡ refused (number r) → Planned a old
  unfolding plan_at_code
  plan-at-refused r e = let d = code-refused (Unit {0}) r e in refuses r (stops (number r) _ _ d.0 d.1)

  module _ (able : Countable n n opens callouts (count_code n n opens callouts (length old))) where
    pub no_such_plan : count (length opens) opens ≤ k → {a : PlanAnswer} → a ≡ refused (number Refusal.NoSuchPlan) → Planned a old
    unfolding plan_at_code number
    no_such_plan h =
        refuses Refusal.NoSuchPlan
        (sym (or_later _ _ able.none ∙ ap (λ b. cond b 16 0) (le-leb (count n opens) k (subst (λ m. count m opens ≤ k) (rows able) h))))

    pub plan-at_done : k < count (length opens) opens → {p : List ℕ} {r : PlanAnswer} {new : List ℕ} → p ≡ unrank (length opens) opens k → r ≡ given p 0
        → new ≡ written 0 (last_counts (length opens) opens) old → Planned r new
    unfolding plan_at_answer plan_at_tally plan_at_code
    plan-at_done h {p} {r} e q w =
        let none = or_later _ _ able.none ∙ ap (λ b. cond b 16 0) (lt-leb (count n opens) k (subst (λ m. k < count m opens) (rows able) h)) in
        writes (λ (a : PlanAnswer). a.code) _ _ old
        (q ∙ ap (λ x. given x 0) (e ∙ ap (λ m. unrank m opens k) (rows able)) ∙ accepted-answer _ none refused _)
        (ap (λ (a : PlanAnswer). a.code) q) (lasts able old w)

-- ---- a plan's number

module _ (n : ℕ) (opens callouts : List ℕ) (g : Plan) (old : List ℕ) where
  abbrev Numbered : NumberAnswer → List ℕ → Type 0
  Numbered r new = record {
    answer : r ≡ plan_number_answer n n opens callouts g (length old);
    tally : new ≡ plan_number_tally n n opens callouts g old;
  }

  refuses-number : (r : Refusal) → number r ≡ plan_number_code n n opens callouts g (length old) → {a : NumberAnswer} → a ≡ number_refused (number r)
      → Numbered a old
  unfolding plan_number_answer plan_number_tally code_of
  refuses-number = refused-keeps (λ (a : NumberAnswer). a.code) number_refused (λ c. refl) _ _ _ old

  pub plan-number-refused : (r : Refusal) → code_of {A = Unit {0}} (Err r) ≡ count_code n n opens callouts (length old)
      → {a : NumberAnswer} → a ≡ number_refused (number r) → Numbered a old
  unfolding plan_number_code
  plan-number-refused r e = let d = code-refused (Unit {0}) r e in refuses-number r (stops (number r) _ _ d.0 d.1)

  module _ (able : Countable n n opens callouts (count_code n n opens callouts (length old))) where
    F : length opens ≤ 64
    F = few n n opens callouts able.passed.code

    R : (i : ℕ) → i < length opens → get_or opens i 0 < 2 ^ n
    R = range n n opens callouts able.passed.code

    pub not_a_plan : (IsPlan opens g.slots → ⊥) → {a : NumberAnswer} → a ≡ number_refused (number Refusal.NotAPlan) → Numbered a old
    unfolding plan_number_code number
    not_a_plan f = refuses-number Refusal.NotAPlan (sym (or_later _ _ able.none ∙ ap plan_code (is_no_plan n opens F R g.slots f)))

    pub plan-number_done : IsPlan opens g.slots → {k : ℕ} → k ≡ rank (length opens) opens g.slots → {a : NumberAnswer} → a ≡ number_given k
        → {new : List ℕ} → new ≡ written 0 (last_counts (length opens) opens) old → Numbered a new
    unfolding plan_number_answer plan_number_tally plan_number_code
    plan-number_done P e q w =
        let none = or_later _ _ able.none ∙ ap plan_code (is-plan n opens F R g.slots P) in
        writes (λ (a : NumberAnswer). a.code) _ _ old
        (q ∙ ap number_given (e ∙ ap (λ m. rank m opens g.slots) (rows able)) ∙ accepted-answer _ none number_refused _)
        (ap (λ (a : NumberAnswer). a.code) q) (lasts able old w)
