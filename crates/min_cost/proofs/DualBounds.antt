-- Duals bound the callouts of every plan, and the plans that meet the bound are those of the tight cells; so the first of these is
-- the answer. Assumes nothing.
use mathlib.Core.Path.{◌≡◌, sym, ap, ◌∙◌}
use mathlib.Core.Logic.{◌≢◌, ◌⊎◌}
use mathlib.Core.Bool.{Bool, true, false, cond}
use mathlib.Core.List.{List}
use Prim.Native.Nat.{ℕ, ◌+◌, ◌^◌, ◌≤◌, ◌<◌, min}
use native.Mathlib.Nat.{lt_of_lt_of_le}
use native.Mathlib.Omega.{arith}
use borrow.Author.Tests.{le-leb, lt-leb}
use lib.Dec.{leb}
use lib.ListN.{length, get_or}
use lib.Pow.{pow_mono}
use Rattle.words.specs.Sum.{sum}
use Rattle.words.proofs.Bits.{bit-lt, bit_one_lt}
use Rattle.words.proofs.Sums.{sum_cong, sum-le, sum_lt, sum-add, sum_permutation}
use Rattle.model.specs.declared.PlanAnswer.{PlanAnswer}
use Rattle.model.specs.Plans.{IsPlan}
use Rattle.model.specs.Fewest.{callouts_of}
use Rattle.model.specs.Lists.{Before}
use Rattle.model.specs.PlanAnswers.{given, over_cap, fewest_from}
use Rattle.model.proofs.Plans.{plan_across}
use Rattle.model.proofs.Laws.{callouts-le, fewest-of, fewest_of-none}
use Rattle.augment.specs.Table.{at, cell}
use Rattle.augment.proofs.Moves.{same_or}
use Rattle.maximum.specs.Maximum.{Filled, deficient_by}
use Rattle.maximum.proofs.Deficient.{deficient_answer, exposed_no_plan}
use Rattle.least.specs.Least.{Settled}
use Rattle.least.proofs.Firsts.{settled_before}
use Rattle.min_cost.specs.Dual.{Square, delta, Cheapest}

-- no open cell undercuts them; r is what they add up to
pub record Duals (w c : List ℕ) (u v : ℕ → ℕ) (r : ℕ) : Type 0 where
  pub fair : (i k : ℕ) → i < length w → k < 64 → cell w i k ≡ 1 → u i + 1 ≤ cell c i k + v k
  pub cap : (i : ℕ) → i < length w → u i ≤ r
  pub total : sum (λ i. u i + 1) (length w) ≡ sum v (length w) + r

-- t has the tight cells
pub record Tight (w c : List ℕ) (u v : ℕ → ℕ) (t : List ℕ) : Type 0 where
  pub sized : length t ≡ length w
  pub range : (i : ℕ) → i < length t → get_or t i 0 < 2 ^ 64
  pub word : (i k : ℕ) → i < length w → k < 64 → cell t i k ≡ min (cell w i k) (delta (cell c i k + v k) (u i + 1))

module _ {w c : List ℕ} (S : Square w c) (i : ℕ) (h : i < length w) where
  pub open_range : get_or w i 0 < 2 ^ 64
  open_range = lt_of_lt_of_le (S.below i h) (pow_mono S.few)

  pub slot-below : (k : ℕ) → cell w i k ≡ 1 → k < length w
  slot-below k b = bit_one_lt (length w) (get_or w i 0) k (S.below i h) b

module _ {w c : List ℕ} {u v : ℕ → ℕ} {t : List ℕ} (T : Tight w c u v t) (i k : ℕ) (h : i < length w) (g : k < 64) where
  pub tight_open : cell t i k ≡ 1 → (cell w i k ≡ 1) × (u i + 1 ≡ cell c i k + v k)
  tight_open b = let e = T.word i k h g in (omega (arith, bit-lt (get_or w i 0) k), omega (arith, bit-lt (get_or w i 0) k))

  pub open_tight : cell w i k ≡ 1 → u i + 1 ≡ cell c i k + v k → cell t i k ≡ 1
  open_tight b e = omega (arith, T.word i k h g)

module _ {w c : List ℕ} (S : Square w c) {u v : ℕ → ℕ} {r : ℕ} (D : Duals w c u v r) where
  abbrev n : ℕ
  n = length w

  -- ---- a plan

  module _ (q : List ℕ) (Q : IsPlan w q) where
    abbrev cost : ℕ → ℕ
    cost i = cell c i (at q i) + v (at q i)

    slot_lt : (i : ℕ) → i < n → at q i < n
    slot_lt i h = slot-below S i h (at q i) (Q.open_cell i h)

    fair_at : (i : ℕ) → i < n → u i + 1 ≤ cost i
    fair_at i h = D.fair i (at q i) h (omega (arith, slot_lt i h, S.few)) (Q.open_cell i h)

    callouts_are : callouts_of c q ≡ sum (λ i. cell c i (at q i)) n
    unfolding callouts_of
    callouts_are = ap (sum (λ i. cell c i (at q i))) S.same

    -- its slots are all slots
    costs : sum cost n ≡ callouts_of c q + sum v n
    costs = omega (arith, sum-add (λ i. cell c i (at q i)) (λ i. v (at q i)) n, callouts_are, sum_permutation n v (at q) slot_lt Q.once)

    pub bound : r ≤ callouts_of c q
    bound = omega (arith, D.total, costs, sum-le (λ i. u i + 1) cost n fair_at)

    met : ((i : ℕ) → i < n → u i + 1 ≡ cost i) → callouts_of c q ≡ r
    met e = omega (arith, D.total, costs, sum_cong (λ i. u i + 1) cost n e)

    slack : callouts_of c q ≡ r → (i : ℕ) → i < n → u i + 1 ≡ cost i
    slack e i h =
        same_or (u i + 1) (cost i) (λ z. z)
        (λ z. absurd (omega (arith, D.total, costs, sum_lt (λ i. u i + 1) cost n i h fair_at (omega (arith, fair_at i h)))))

  -- ---- the plans of the tight cells

  module _ {t : List ℕ} (T : Tight w c u v t) where
    -- in a plan of tight cells
    tight_at : (q : List ℕ) → IsPlan t q → (i : ℕ) → i < n → (cell w i (at q i) ≡ 1) × (u i + 1 ≡ cell c i (at q i) + v (at q i))
    tight_at q Q i h =
        let g : i < length t = omega (arith, T.sized) in
        tight_open T i (at q i) h (bit_one_lt 64 (get_or t i 0) (at q i) (T.range i g) (Q.open_cell i g)) (Q.open_cell i g)

    plan-in : (q : List ℕ) → IsPlan w q → callouts_of c q ≡ r → IsPlan t q
    plan-in q Q e =
        plan_across T.sized Q (λ i h.
        let g : i < n = omega (arith, T.sized) in
        open_tight T i (at q i) g (omega (arith, slot_lt q Q i g, S.few)) (Q.open_cell i g) (slack q Q e i g))

    pub settled_cheapest : {p q : List ℕ} → Settled t p 0 q → Cheapest w c q r
    settled_cheapest {p} {q} A =
        let Q : IsPlan w q = plan_across (sym T.sized) A.plan (λ i h. (tight_at q A.plan i h).0) in
        let first : (x : List ℕ) → IsPlan w x → callouts_of c x ≡ r → (x ≡ q) ⊎ Before q x = λ x X e.
        settled_before A (plan-in x X e) (λ l h. absurd (omega arith)) in
        search (met q Q (λ i h. (tight_at q A.plan i h).1), bound)

-- ---- the answers

module _ {w c : List ℕ} (S : Square w c) (cap : ℕ) where
  abbrev Answer : PlanAnswer → Type 0
  Answer a = a ≡ fewest_from 64 w c cap

  pub answer-none : {o p : List ℕ} {f e d : ℕ} → Filled w o p f e d → e ≢ 0 → Answer (deficient_by o e d)
  answer-none {o} {p} {f} {e} {d} F some =
      deficient_answer w o p f e d F ∙ sym (fewest_of-none 64 w S.few (open_range S) c cap (exposed_no_plan w o p f e d F some))

  module _ {p : List ℕ} {r : ℕ} (C : Cheapest w c p r) where
    pub number_small : r ≤ 64
    number_small = omega (arith, C.number, callouts-le c p, S.same, S.few)

    answer_by : (b : Bool) → leb r cap ≡ b → Answer (cond b (given p r) (over_cap r))
    answer_by b e =
        ap (λ b. cond b (given p r) (over_cap r)) (sym e)
        ∙ ap (λ z. cond (leb z cap) (given p z) (over_cap z)) (sym C.number)
        ∙ sym (fewest-of 64 w S.few (open_range S) c p C.plan (λ q Q. omega (arith, C.number, C.fewer q Q)) (λ q Q x. C.first q Q (x ∙ C.number)) cap)

    pub answer-within : r ≤ cap → Answer (given p r)
    answer-within h = answer_by true (le-leb r cap h)

    pub answer-over : cap < r → Answer (over_cap r)
    answer-over h = answer_by false (lt-leb r cap h)
