-- The search as a theorem: a slot of cand can be given to an exposed item, or a closed set rules it out. For proofs that need one of
-- the two without a program. Assumes nothing.
use mathlib.Core.Path.{refl}
use mathlib.Core.Logic.{◌≢◌, ◌⊎◌, inl, inr, ⊎_elim}
use mathlib.Core.List.{List}
use Prim.Native.Nat.{ℕ, zero, suc, ◌+◌, ◌^◌, ◌≤◌, ◌<◌}
use native.Mathlib.Omega.{arith}
use lib.Bits.{bit_or, or_lt}
use lib.Count.{ones}
use Rattle.words.specs.Word.{minus}
use Rattle.augment.specs.Table.{span}
use Rattle.augment.specs.Search.{Mover, Relocatable, Relocated, Vacatable, Vacated, Certificate, Assignable, Assigned, Barred}
use Rattle.augment.proofs.Spans.{span-from, span-lt}
use Rattle.augment.proofs.Moves.{same_or, taken}
use Rattle.augment.proofs.Vacants.{hole-or}
use Rattle.augment.proofs.Searches.{relocate_takeable, relocated, vacate_owners, at_hand, vacated_at_hand, Layer, layer_next}
use Rattle.augment.proofs.Searches.{hole_takeable, hole_assigned, displace_vacatable, displace_barred, displace_takeable, displace_assigned}

-- tables afterwards
pub record After (P : List ℕ → List ℕ → ℕ → ℕ → Type 0) : Type 0 where
  pub owner : List ℕ
  pub slot : List ℕ
  pub free : ℕ
  pub at : ℕ
  pub holds : P owner slot free at

relocate : {w o p : List ℕ} {f set h : ℕ} → Relocatable w o p f set h → After (Relocated w o p f set h)
relocate {w} {o} {set = set} {h = h} P =
    let r = span-from w o set h P.reached in
    let G : Mover w o set h r.0 = record { below = r.1; from = r.2; may = r.3 } in
    record { owner = _; slot = _; free = _; at = _; holds = relocated P G (taken (relocate_takeable P G)) }

abbrev Outcome : List ℕ → List ℕ → List ℕ → ℕ → ℕ → ℕ → Type 0
Outcome w o p f set seen = After (Vacated w o p f set seen) ⊎ ((t : ℕ) × (t < 2 ^ 64) × Certificate w o f set seen t)

-- one layer, given what the next one brings
module _ {w o p : List ℕ} {f set seen : ℕ} (Z : Vacatable w o p f set seen) (fits : seen < 2 ^ 64) where
  onward : {layer : ℕ} → Layer w o p f set seen layer → Outcome w o p f layer (bit_or seen layer) → Outcome w o p f set seen
  onward L (inl r) = let q = relocate (L.relocatable r.holds) in
      inl (record { owner = _; slot = _; free = _; at = _; holds = L.vacated r.holds q.holds })
  onward L (inr r) = inr (r.0, r.1, L.certificate r.2)

  step : ((layer : ℕ) → Layer w o p f set seen layer → layer ≢ 0 → Outcome w o p f layer (bit_or seen layer)) → Outcome w o p f set seen
  step ih = ⊎_elim
      (λ r. let A = at_hand Z refl r.1 in inl (record { owner = _; slot = _; free = _; at = _; holds = vacated_at_hand Z A (relocate A).holds }))
      (λ none.
      let L = layer_next Z refl fits refl none in
      same_or (minus (span w o set) seen) 0 (λ e. inr (seen, fits, L.done e)) (λ z. onward L (ih _ L z)))
      (hole-or (span w o set) f (span-lt w o set (vacate_owners Z)))

vacate : (fuel : ℕ) {w o p : List ℕ} {f set seen : ℕ} → 64 ≤ ones seen + fuel → seen < 2 ^ 64 → Vacatable w o p f set seen → Outcome w o p f set seen
vacate zero enough fits Z = step Z fits (λ l L z. absurd (omega (arith, L.more z)))
vacate (suc fuel) enough fits Z = step Z fits (λ l L z. vacate fuel (omega (arith, L.more z)) L.fits L.vacatable)

-- item x gets a slot of cand, or a closed set holds all of cand
pub assign_or : {w o p : List ℕ} {f x cand fixed : ℕ} → cand < 2 ^ 64 → fixed < 2 ^ 64 → Assignable w o p f x cand fixed
    → After (Assigned w o p f x cand fixed) ⊎ ((t : ℕ) × (t < 2 ^ 64) × Barred w o f cand fixed t)
assign_or {f = f} {cand = cand} {fixed = fixed} hc hk A = ⊎_elim
    (λ r. inl (record { owner = _; slot = _; free = _; at = _; holds = hole_assigned A r.1 (taken (hole_takeable A r.1)) }))
    (λ none. ⊎_elim
    (λ r. let U = r.holds in inl (record { owner = _; slot = _; free = _; at = _; holds = displace_assigned A U (taken (displace_takeable A U)) }))
    (λ r. inr (r.0, r.1, displace_barred A r.2))
    (vacate 64 (omega arith) (or_lt 64 fixed cand hk hc) (displace_vacatable A none)))
    (hole-or cand f hc)
