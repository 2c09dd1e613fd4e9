-- What a search has to show of a plan for it to be the answer. No proof of a program opens the list of plans: it cites these laws.
-- Assumes nothing.
use mathlib.Core.Path.{◌≡◌, refl, sym, ap, ap₂, ◌∙◌, subst}
use mathlib.Core.Logic.{◌⊎◌}
use mathlib.Core.Bool.{Bool, true, false, cond}
use mathlib.Core.List.{List, [], ◌∷◌, Memᴰ}
use Prim.Native.Nat.{ℕ, ◌^◌, ◌<◌, ◌≤◌}
use native.Mathlib.Omega.{arith}
use lib.Dec.{T, eqb, leb, eqb→eq, eqb_refl}
use lib.ListN.{length, get_or}
use Rattle.words.specs.Word.{bit}
use Rattle.words.proofs.Bits.{bit-lt}
use Rattle.words.proofs.Sums.{sum_const, sum-le}
use Rattle.model.specs.Lists.{keep, same, before, Before, Chain}
use Rattle.model.specs.Rota.{table_code}
use Rattle.model.specs.Refusal.{unless, plan_code}
use Rattle.model.specs.Plans.{plans, is_plan, plans_after, IsPlan}
use Rattle.model.specs.Fewest.{callouts_of, fewest, fewest_plans}
use Rattle.model.specs.PlanAnswers.{refused, no_plan, over_cap, given, first_of, first_from, next_of, next_from, fewest_of, fewest_from}
use Rattle.model.proofs.Members.{is_true, is_false, same_refl, same-eq, keep-from, keep_into, any_into, any-from}
use Rattle.model.proofs.Order.{chain_keep, least_is_head}
use Rattle.model.proofs.Extremes.{least_is}
use Rattle.model.proofs.Accepted.{accepted}
use Rattle.model.proofs.Plans.{plans_rise, plan-from, plan_into}

-- no other plan stands before p
abbrev pub IsLeast : List ℕ → List ℕ → Type 0
IsLeast opens p = (q : List ℕ) → IsPlan opens q → (q ≡ p) ⊎ Before p q

-- a plan has a cell for each item
pub callouts-le : (callouts p : List ℕ) → callouts_of callouts p ≤ length callouts
unfolding callouts_of
callouts-le callouts p =
    let most = sum-le (λ i. bit (get_or callouts i 0) (get_or p i 0)) (λ i. 1) (length callouts) (λ i h. omega (arith, bit-lt (get_or callouts i 0) (get_or p i 0))) in
    omega (arith, sum_const 1 (length callouts))

pub after_rise : (m : ℕ) (opens g : List ℕ) → Chain Before (plans_after m opens g)
unfolding plans_after
after_rise m opens g = chain_keep Before (before g) (plans m opens) (plans_rise m opens)

pub empty_list : {A : Type 0} (l : List A) → ((x : A) → Memᴰ x l → ⊥) → l ≡ []
empty_list [] f = refl
empty_list (x ∷ l) f = absurd (f x (Memᴰ.head refl))

module _ (m : ℕ) (opens : List ℕ) (few : length opens ≤ 64) (range : (i : ℕ) → i < length opens → get_or opens i 0 < 2 ^ m) where
  from : (p : List ℕ) → Memᴰ p (plans m opens) → IsPlan opens p
  from = plan-from m opens few range

  into : (p : List ℕ) → IsPlan opens p → Memᴰ p (plans m opens)
  into = plan_into m opens few range

  -- ---- whether there is a plan

  pub no_plans : ((p : List ℕ) → IsPlan opens p → ⊥) → plans m opens ≡ []
  no_plans f = empty_list (plans m opens) (λ p h. f p (from p h))

  -- ---- whether a record is a plan

  pub is-plan : (p : List ℕ) → IsPlan opens p → is_plan m opens p ≡ true
  unfolding is_plan
  is-plan p P = is_true (is_plan m opens p) (any_into (same p) (plans m opens) (into p P) (subst T (sym (same_refl p)) tt))

  pub is_so : (p : List ℕ) → is_plan m opens p ≡ true → IsPlan opens p
  unfolding is_plan
  is_so p e = let r = any-from (same p) (plans m opens) (rw e tt) in from p (rw (same-eq p r.0 (is_true _ r.2)) r.1)

  pub is_no_plan : (p : List ℕ) → (IsPlan opens p → ⊥) → is_plan m opens p ≡ false
  is_no_plan p f = is_false (is_plan m opens p) (λ t. f (is_so p (is_true (is_plan m opens p) t)))

  -- ---- first

  pub first_of-none : ((p : List ℕ) → IsPlan opens p → ⊥) → first_from m opens ≡ no_plan opens
  unfolding first_from first_of
  first_of-none f = ap (first_of opens) (no_plans f)

  pub first-of : (p : List ℕ) → IsPlan opens p → IsLeast opens p → first_from m opens ≡ given p 0
  unfolding first_from first_of
  first-of p P f = ap (first_of opens) (least_is_head (plans m opens) p (plans_rise m opens) (into p P) (λ q h. f q (from q h))).1

  -- ---- next

  pub after-from : (g p : List ℕ) → Memᴰ p (plans_after m opens g) → IsPlan opens p × Before g p
  unfolding plans_after
  after-from g p h = let r = keep-from (before g) (plans m opens) h in (from p r.0, r.1)

  pub after_into : (g p : List ℕ) → IsPlan opens p → Before g p → Memᴰ p (plans_after m opens g)
  unfolding plans_after
  after_into g p P b = keep_into (before g) (plans m opens) (into p P) b

  next_by : (g : List ℕ) (b : Bool) → is_plan m opens g ≡ b → next_from m opens g ≡ unless refused (plan_code b) (next_of (plans_after m opens g))
  unfolding next_from
  next_by g b e = ap (λ b. unless refused (plan_code b) (next_of (plans_after m opens g))) e

  pub next_no_plan : (g : List ℕ) → (IsPlan opens g → ⊥) → next_from m opens g ≡ refused 8
  unfolding unless
  next_no_plan g f = next_by g false (is_no_plan g f)

  pub next-at : (g : List ℕ) → IsPlan opens g → next_from m opens g ≡ next_of (plans_after m opens g)
  unfolding unless
  next-at g G = next_by g true (is-plan g G)

  pub next_of-none : (g : List ℕ) → ((p : List ℕ) → IsPlan opens p → Before g p → ⊥) → next_of (plans_after m opens g) ≡ refused 10
  unfolding next_of
  next_of-none g f = ap next_of (empty_list (plans_after m opens g) (λ p h. let r = after-from g p h in f p r.0 r.1))

  pub next-of : (g p : List ℕ) → IsPlan opens p → Before g p → ((q : List ℕ) → IsPlan opens q → Before g q → (q ≡ p) ⊎ Before p q)
      → next_of (plans_after m opens g) ≡ given p 0
  unfolding next_of
  next-of g p P b f =
      ap next_of
      (least_is_head (plans_after m opens g) p (after_rise m opens g) (after_into g p P b) (λ q h. let r = after-from g q h in f q r.0 r.1)).1

  -- ---- fewest callouts

  pub fewest_of-none : (callouts : List ℕ) (cap : ℕ) → ((p : List ℕ) → IsPlan opens p → ⊥) → fewest_from m opens callouts cap ≡ no_plan opens
  unfolding fewest_from fewest_of fewest_plans keep
  fewest_of-none callouts cap f =
      ap (λ l. fewest_of opens cap (fewest m opens callouts) (keep (λ p. eqb (callouts_of callouts p) (fewest m opens callouts)) l)) (no_plans f)

  module _ (callouts p : List ℕ) (P : IsPlan opens p) (fewer : (q : List ℕ) → IsPlan opens q → callouts_of callouts p ≤ callouts_of callouts q) where
    pub fewest_is : fewest m opens callouts ≡ callouts_of callouts p
    unfolding fewest
    fewest_is = least_is (callouts_of callouts) (plans m opens) p (into p P) (λ q h. fewer q (from q h))

    module _ (f : (q : List ℕ) → IsPlan opens q → callouts_of callouts q ≡ callouts_of callouts p → (q ≡ p) ⊎ Before p q) where
      fewest_head : (rest : List (List ℕ)) × (fewest_plans m opens callouts ≡ p ∷ rest)
      unfolding fewest_plans
      fewest_head =
          let test : List ℕ → Bool = λ q. eqb (callouts_of callouts q) (fewest m opens callouts) in
          least_is_head (fewest_plans m opens callouts) p (chain_keep Before test (plans m opens) (plans_rise m opens))
          (keep_into test (plans m opens) (into p P) (subst (λ k. T (eqb (callouts_of callouts p) k)) (sym fewest_is) (eqb_refl (callouts_of callouts p))))
          (λ q h.
          let r = keep-from test (plans m opens) h in
          f q (from q r.0) (eqb→eq (callouts_of callouts q) (fewest m opens callouts) r.1 ∙ fewest_is))

      pub fewest-of : (cap : ℕ)
          → fewest_from m opens callouts cap ≡ cond (leb (callouts_of callouts p) cap) (given p (callouts_of callouts p)) (over_cap (callouts_of callouts p))
      unfolding fewest_from fewest_of
      fewest-of cap = ap₂ (fewest_of opens cap) fewest_is fewest_head.1

-- ---- of accepted tables

module _ (n m : ℕ) (opens callouts : List ℕ) (ok : table_code n m opens callouts ≡ 0) where
  pub few : length opens ≤ 64
  few = let A = accepted n m opens callouts ok in omega (arith, A.few-items, A.open_words)

  pub range : (i : ℕ) → i < length opens → get_or opens i 0 < 2 ^ m
  range i h = let A = accepted n m opens callouts ok in A.open_range i (omega (arith, A.open_words))
