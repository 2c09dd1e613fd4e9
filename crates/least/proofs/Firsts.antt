-- What `settle` leaves is the least plan, and `first_plan` gives the model's first one. Assumes nothing.
use mathlib.Core.Path.{◌≡◌, sym, ◌∙◌}
use mathlib.Core.Logic.{◌≢◌, ◌⊎◌, inl, inr}
use mathlib.Core.List.{List}
use Prim.Native.Nat.{ℕ, ◌^◌, ◌≤◌, ◌<◌}
use native.Mathlib.Omega.{arith}
use lib.ListN.{length, get_or}
use Rattle.words.specs.Word.{bit}
use Rattle.words.proofs.Bits.{bit_empty}
use Rattle.model.specs.Plans.{IsPlan}
use Rattle.model.specs.PlanAnswers.{first_from, given}
use Rattle.model.specs.Lists.{Before}
use Rattle.model.proofs.Order.{before_trichotomy, before_place, before_by}
use Rattle.model.proofs.Laws.{first-of, first_of-none}
use Rattle.augment.specs.Table.{at}
use Rattle.maximum.specs.Maximum.{Filled, deficient_by}
use Rattle.maximum.proofs.Deficient.{deficient_answer, exposed_no_plan, none-exposed-complete}
use Rattle.least.specs.Least.{Settleable, SameTo, Settled}
use Rattle.least.proofs.Shifts.{lt-or}

-- a full table is complete, and no item is before the first
pub filled_settleable : {w o p : List ℕ} {f e d : ℕ} → Filled w o p f e d → e ≡ 0 → Settleable w o p f 0 0
filled_settleable {w} {o} {p} {f} {e} {d} F z =
    let C = none-exposed-complete w o p f e d F z in let none : (k : ℕ) → bit 0 k ≡ 1 → ⊥ = λ k b. omega (arith, bit_empty k) in
    record { before = record { complete = C; held = λ k h b. absurd (none k b); only = λ k h b. absurd (none k b); all = search arith }; within = omega arith }

-- where one plan comes before another, at the first item at which they differ
pub before-item : {w p q : List ℕ} → IsPlan w p → IsPlan w q → Before p q → (i : ℕ) × (i < length w) × SameTo p q i × (at p i < at q i)
before-item {w} {p} {q} P Q b =
    let d = before_place p q (P.sized ∙ sym Q.sized) b in
    lt-or d.0 (length w) (λ h. (d.0, h, d.2, d.3)) (λ h. absurd (omega (arith, d.1, d.3, Q.zeros d.0 h (omega (arith, d.1, P.sized)))))

pub before_at : {w p q : List ℕ} → length w ≤ 64 → IsPlan w p → IsPlan w q → (i : ℕ) → i < length w → SameTo p q i → at p i < at q i → Before p q
before_at {w} {p} {q} few P Q i h same less = before_by p q i (omega (arith, P.sized)) (omega (arith, Q.sized)) same less

-- a plan that gives the items before `from` the same slots is the settled one, or comes after it
pub settled_before : {w p : List ℕ} {from : ℕ} {r : List ℕ} → Settled w p from r → {q : List ℕ} → IsPlan w q → SameTo q r from → (q ≡ r) ⊎ Before r q
settled_before {from} {r} S {q} Q A = go (before_trichotomy q r (Q.sized ∙ sym S.plan.sized))
  where
    go : (q ≡ r) ⊎ (Before q r ⊎ Before r q) → (q ≡ r) ⊎ Before r q
    go (inl e) = inl e
    go (inr (inr b)) = inr b
    go (inr (inl b)) =
        let d = before-item Q S.plan b in
        absurd (lt-or d.0 from (λ h. omega (arith, d.3, A d.0 h)) (λ h. omega (arith, d.3, S.least d.0 h d.1 q Q d.2)))

-- ---- the answers

pub first_found : (w : List ℕ) → length w ≤ 64 → ((x : ℕ) → x < length w → get_or w x 0 < 2 ^ 64) → {p r : List ℕ} → Settled w p 0 r
    → given r 0 ≡ first_from 64 w
first_found w few range {p} {r} S = sym (first-of 64 w few range r S.plan (λ q Q. settled_before S Q (λ l h. absurd (omega arith))))

pub first-none : {w o p : List ℕ} {f e d : ℕ} → Filled w o p f e d → e ≢ 0 → deficient_by o e d ≡ first_from 64 w
first-none {w} {o} {p} {f} {e} {d} F some =
    deficient_answer w o p f e d F ∙ sym (first_of-none 64 w F.table.few F.table.range (exposed_no_plan w o p f e d F some))
