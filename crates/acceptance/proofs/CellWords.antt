-- What is wrong in any word, gathered item by item. Assumes nothing.
use mathlib.Core.Path.{◌≡◌, refl, sym, ap, ap₂, ◌∙◌}
use mathlib.Core.Bool.{Bool, true, false, not, cond, ◌||◌, or_assoc, or-false}
use mathlib.Core.List.{List, []}
use Prim.Native.Nat.{ℕ, ◌+◌, ◌^◌, ◌≤◌, ◌<◌}
use native.Mathlib.Numerals.{add-one}
use native.Mathlib.Omega.{arith}
use lib.Bits.{bit_or}
use lib.Dec.{eqb, leb}
use lib.ListN.{length, get_or, drop, drop_of_length-le}
use lib.Seq.{drop-cons}
use Rattle.words.specs.Word.{low, minus}
use Rattle.words.proofs.SetLaws.{has-from, or_some}
use Rattle.model.specs.Lists.{any}
use Rattle.model.specs.Rota.{stray_callout, cell_code}

-- one more word is gathered: t is the rest's test, with that word apart
gathered : (a b : ℕ) {whole t : Bool} (one rest : Bool) → t ≡ (one || rest) → not (eqb b 0) ≡ one → whole ≡ (not (eqb a 0) || t)
    → whole ≡ (not (eqb (bit_or a b) 0) || rest)
gathered a b one rest p q r =
    let found = not (eqb a 0) in
    r ∙ ap (found ||◌) p ∙ sym (or_assoc found one rest) ∙ ap (◌|| rest) (ap (found ||◌) (sym q) ∙ sym (or_some a b))

in_order : (a b : Bool) → ◌≡◌ {A = ℕ} (cond a (cond b 0 4) 3) (cond (not a) 3 (cond (not b) 4 0))
in_order true true = refl
in_order true false = refl
in_order false b = refl

abbrev beyond_in : ℕ → List ℕ → Bool
beyond_in m = any (λ w. leb (2 ^ m) w)

-- after i items: open bits from slot m on, callout bits where the cell is not open
pub record Faults (m : ℕ) (opens callouts : List ℕ) (beyond closed i : ℕ) : Type 0 where
  pub within : i ≤ length opens
  pub high : any (λ w. leb (2 ^ m) w) opens ≡ (not (eqb beyond 0) || any (λ w. leb (2 ^ m) w) (drop i opens))
  pub stray : stray_callout opens callouts ≡ (not (eqb closed 0) || stray_callout (drop i opens) (drop i callouts))

module _ {m beyond closed i : ℕ} {opens callouts : List ℕ} (same : length callouts ≡ length opens) (g : Faults m opens callouts beyond closed i) where
  pub faults_more : m ≤ 64 → i < length opens → get_or opens i 0 < 2 ^ 64
      → Faults m opens callouts (bit_or beyond (minus (get_or opens i 0) (low m))) (bit_or closed (minus (get_or callouts i 0) (get_or opens i 0))) (i + 1)
  unfolding any stray_callout
  faults_more few h l =
      let w = get_or opens i 0 in
      let c = get_or callouts i 0 in
      let d = drop-cons opens i 0 h in
      let e = drop-cons callouts i 0 (omega arith) in
      record {
        within = omega arith;
        high = rw add-one (gathered beyond (minus w (low m)) (leb (2 ^ m) w) _ (ap (beyond_in m) d) (has-from m w few l) g.high);
        stray = rw add-one (gathered closed (minus c w) (not (eqb (minus c w) 0)) _ (ap₂ stray_callout d e) refl g.stray);
      }

  pub faults_done : i ≡ length opens → {r : ℕ} → r ≡ cond (eqb beyond 0) (cond (eqb closed 0) 0 4) 3 → r ≡ cell_code m opens callouts
  unfolding cell_code any stray_callout
  faults_done e q =
      let none : drop i opens ≡ [] = drop_of_length-le opens {i = i} (omega arith) in
      let high = g.high ∙ ap (λ l. not (eqb beyond 0) || beyond_in m l) none ∙ or-false (not (eqb beyond 0)) in
      let stray = g.stray ∙ ap (λ l. not (eqb closed 0) || stray_callout l (drop i callouts)) none ∙ or-false (not (eqb closed 0)) in
      q ∙ in_order (eqb beyond 0) (eqb closed 0) ∙ sym (ap₂ (λ a b. cond a 3 (cond b 4 0)) high stray)
