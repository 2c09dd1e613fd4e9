-- A cell's plan: the first that holds the cell, or blank where none does. Assumes nothing.
use mathlib.Core.Path.{◌≡◌, refl, sym, ap, ◌∙◌}
use mathlib.Core.Logic.{◌≢◌, ◌⊎◌, inl, inr}
use mathlib.Core.List.Memᴰ
use mathlib.Core.List.{List, [], ◌∷◌, Memᴰ}
use Prim.Native.Nat.{ℕ, ◌^◌, ◌<◌, ◌≤◌}
use native.Mathlib.Omega.{arith}
use native.Mathlib.Decide.{dec_lt}
use lib.Dec.{ltb, eqb→eq, eqb_refl, ltb→lt, lt→ltb}
use lib.ListN.{length, get_or, get_or-replicate}
use Rattle.model.specs.Lists.{Before, Rising}
use Rattle.model.specs.Plans.{plans, blank, IsPlan}
use Rattle.model.specs.CellPlans.{holds, cell_plans, cell_plan, Holds, FirstHolding}
use Rattle.model.proofs.Members.{both, both_left, both_right, keep-from, keep_into}
use Rattle.model.proofs.Order.{chain_keep}
use Rattle.model.proofs.Plans.{plans_rise, plan-from, plan_into}

-- a plan has no byte twice among its items', and 0 after them
pub plan-not-blank : {opens p : List ℕ} → length opens ≤ 64 → IsPlan opens p → p ≢ blank
plan-not-blank {opens} {p} few P e =
    let byte : (k : ℕ) → k < 64 → get_or p k 0 ≡ 255 = λ k h. ap (λ q. get_or q k 0) e ∙ get_or-replicate 64 k 255 0 h in
    elim (dec_lt 1 (length opens)) [
      | yes h ↦ absurd (omega (arith, P.once 0 1 (omega arith) h (byte 0 (omega arith) ∙ sym (byte 1 (omega arith)))))
      | no h ↦ absurd (omega (arith, byte 1 (omega arith), P.zeros 1 (omega arith) (omega arith)))
    ]

module _ (m : ℕ) (opens : List ℕ) (i j : ℕ) where
  pub cell-plans_rise : Rising (cell_plans m opens i j)
  unfolding cell_plans
  cell-plans_rise = chain_keep Before (holds (length opens) i j) (plans m opens) (plans_rise m opens)

  module _ (few : length opens ≤ 64) (range : (x : ℕ) → x < length opens → get_or opens x 0 < 2 ^ m) where
    pub cell-plans-from : (p : List ℕ) → Memᴰ p (cell_plans m opens i j) → Holds opens i j p
    unfolding cell_plans holds
    cell-plans-from p h =
        let r = keep-from (holds (length opens) i j) (plans m opens) h in
        record {
          plan = plan-from m opens few range p r.0;
          item = ltb→lt i (length opens) (both_left (ltb i (length opens)) _ r.1);
          slot = eqb→eq (get_or p i 0) j (both_right (ltb i (length opens)) _ r.1);
        }

    pub cell-plans_into : (p : List ℕ) → Holds opens i j p → Memᴰ p (cell_plans m opens i j)
    unfolding cell_plans holds
    cell-plans_into p H =
        keep_into (holds (length opens) i j) (plans m opens) (plan_into m opens few range p H.plan)
        (both (ltb i (length opens)) _ (lt→ltb i (length opens) H.item) (rw H.slot (eqb_refl j)))

    -- what the answer is
    pub cell-plan_is : ((cell_plan m opens i j ≡ blank) × ((p : List ℕ) → Holds opens i j p → ⊥)) ⊎ FirstHolding opens i j (cell_plan m opens i j)
    unfolding cell_plan
    cell-plan_is = go (cell_plans m opens i j) cell-plans_rise cell-plans-from cell-plans_into
      where
        go : (l : List (List ℕ)) → Rising l → ((p : List ℕ) → Memᴰ p l → Holds opens i j p) → ((p : List ℕ) → Holds opens i j p → Memᴰ p l)
            → ((get_or l 0 blank ≡ blank) × ((p : List ℕ) → Holds opens i j p → ⊥)) ⊎ FirstHolding opens i j (get_or l 0 blank)
        go [] rise from into = inl (refl, λ p H. Memᴰ.not-nil (into p H))
        go (p ∷ rest) rise from into =
            inr (record {
              held = from p (Memᴰ.head refl);
              least = λ q H. elim (Memᴰ.cases_cons (into q H)) [ inl e ↦ inl e | inr h ↦ inr (rise.0 q h) ];
            })

    pub cell-plan-unheld : ((p : List ℕ) → Holds opens i j p → ⊥) → cell_plan m opens i j ≡ blank
    cell-plan-unheld none = elim cell-plan_is [ inl x ↦ x.0 | inr F ↦ absurd (none _ F.held) ]

    pub cell-plan-held : (p : List ℕ) → Holds opens i j p → FirstHolding opens i j (cell_plan m opens i j)
    cell-plan-held p H = elim cell-plan_is [ inl x ↦ absurd (x.1 p H) | inr F ↦ F ]

    pub cell-plan-none : cell_plan m opens i j ≡ blank → (p : List ℕ) → Holds opens i j p → ⊥
    cell-plan-none e p H = elim cell-plan_is [ inl x ↦ x.1 p H | inr F ↦ absurd (plan-not-blank few F.held.plan e) ]

    pub cell-plan-some : cell_plan m opens i j ≢ blank → FirstHolding opens i j (cell_plan m opens i j)
    cell-plan-some d = elim cell-plan_is [ inl x ↦ absurd (d x.0) | inr F ↦ F ]
