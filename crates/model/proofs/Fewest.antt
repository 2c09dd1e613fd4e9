-- The plans with the fewest callouts. Assumes nothing.
use mathlib.Core.Path.{◌≡◌, refl, subst, subst⁻¹}
use mathlib.Core.Bool.{Bool}
use mathlib.Core.List.{List, [], ◌∷◌, Memᴰ}
use Prim.Native.Nat.{ℕ, ◌≤◌}
use lib.Dec.{T, eqb, eqb_refl, eqb→eq}
use Rattle.model.specs.Lists.{Before, Chain}
use Rattle.model.specs.Plans.{plans}
use Rattle.model.specs.Fewest.{callouts_of, fewest, fewest_plans}
use Rattle.model.proofs.Members.{keep_into, keep-from}
use Rattle.model.proofs.Order.{chain_keep}
use Rattle.model.proofs.Extremes.{least-some, least-bound}
use Rattle.model.proofs.Plans.{plans_rise}

module _ (m : ℕ) (opens callouts : List ℕ) where
  test : List ℕ → Bool
  test p = eqb (callouts_of callouts p) (fewest m opens callouts)

  -- none only if there is no plan at all
  pub fewest_empty : fewest_plans m opens callouts ≡ [] → plans m opens ≡ []
  unfolding fewest_plans fewest test
  fewest_empty e = elim (plans m opens) as (λ l. plans m opens ≡ l → plans m opens ≡ []) [
    | [] ↦ λ q. q
    | p ∷ l ↦ λ q.
        let s = least-some (callouts_of callouts) p l in
        let is : T (test s.0) = rw (q, ← s.2) (eqb_refl (callouts_of callouts s.0)) in
        let member : Memᴰ s.0 (plans m opens) = rw q s.1 in
        absurd (mathlib.Core.List.Memᴰ.not-nil (rw e at (keep_into test (plans m opens) member is)))
  ] refl

  pub fewest-le : (q : List ℕ) → Memᴰ q (plans m opens) → fewest m opens callouts ≤ callouts_of callouts q
  unfolding fewest
  fewest-le q h = least-bound (callouts_of callouts) (plans m opens) q h

  module _ (p : List ℕ) (rest : List (List ℕ)) (e : fewest_plans m opens callouts ≡ p ∷ rest) where
    found : Memᴰ p (plans m opens) × T (test p)
    unfolding fewest_plans test
    found = keep-from test (plans m opens) (subst⁻¹ (Memᴰ p) e (mathlib.Core.List.Memᴰ.head refl))

    pub fewest_member : Memᴰ p (plans m opens)
    fewest_member = found.0

    pub fewest-number : callouts_of callouts p ≡ fewest m opens callouts
    unfolding test
    fewest-number = eqb→eq (callouts_of callouts p) (fewest m opens callouts) found.1

    -- the others of that number follow it
    pub fewest-before : (q : List ℕ) → Memᴰ q rest → Before p q
    unfolding fewest_plans test
    fewest-before = (subst (Chain Before) e (chain_keep Before test (plans m opens) (plans_rise m opens))).0

    pub fewest_into : (q : List ℕ) → Memᴰ q (plans m opens) → callouts_of callouts q ≡ fewest m opens callouts → Memᴰ q (p ∷ rest)
    unfolding fewest_plans test
    fewest_into q h n = rw e at (keep_into test (plans m opens) h (rw (← n) (eqb_refl (callouts_of callouts q))))
