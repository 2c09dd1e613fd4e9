-- The steps of `advance_item`: the item leaves its slot for one above, and goes down among these. Assumes nothing.
use mathlib.Core.Path.{◌≡◌, ap, ◌∙◌}
use mathlib.Core.Logic.{◌≢◌}
use mathlib.Core.List.{List}
use Prim.Native.Nat.{ℕ, ◌+◌, ◌-◌, ◌^◌, ◌≤◌, ◌<◌, min}
use native.Mathlib.Omega.{arith}
use lib.Bits.{bit_and, bit_or}
use lib.ListN.{get_or}
use Rattle.words.specs.Word.{bit, with, minus, low}
use Rattle.words.proofs.Bits.{bit-lt, bit_empty, bit-and, bit-minus}
use Rattle.words.proofs.SetLaws.{bit-not-from, Common}
use Rattle.augment.specs.Table.{at}
use Rattle.augment.specs.Search.{Within, UnheldIn, Vacant}
use Rattle.augment.proofs.Vacants.{unheld_part, unheld-none}
use Rattle.least.specs.Least.{Fixed, Shiftable, Shifted, Stuck, Lowerable, Lowered, Near, Minimizable}
use Rattle.least.proofs.Shifts.{own-slot, slot_small, not_fixed, still_fixed, moved_lowerable}
use Rattle.least.proofs.Settles.{minimize_fixed, minimize_slot, pinned}
use Rattle.next.specs.Next.{above}

-- hit are the slots open to x that no item holds, `may` the open ones above its own
pub record Rising (w o p : List ℕ) (f x fixed hit may : ℕ) : Type 0 where
  pub fixed_held : Fixed w o p f x fixed
  pub hit_is : Vacant w o p f x hit
  pub may_is : may ≡ above w p x

module _ {w o p : List ℕ} {f x after fixed s hit : ℕ} (C : Minimizable w o p f x after fixed) (es : s ≡ at p x) (G : Vacant w o p f x hit) where
  -- x can't leave its slot
  pub rising_pinned : f < 2 ^ 64 → bit_or hit (bit_and after (with f s)) ≡ 0 → Stuck w o x (above w p x) fixed
  rising_pinned fits z q Q A =
      let h : at p x + 1 ≤ 64 = omega (arith, minimize_slot C es) in
      ap (bit (above w p x)) (pinned C es G fits z q Q A) ∙ bit-not-from (get_or w x 0) (at p x + 1) (at p x) h (omega arith)

  pub rising_start : {l may : ℕ} → l ≡ low (s + 1) → may ≡ minus (get_or w x 0) l → Rising w o p f x fixed hit may
  rising_start el em =
      record { fixed_held = minimize_fixed C es; hit_is = G; may_is = em ∙ ap (minus (get_or w x 0)) (el ∙ ap (λ z. low (z + 1)) es) }

in_minus : (a b k : ℕ) → bit (minus a b) k ≤ bit a k
unfolding minus
in_minus a b k = omega (arith, bit-and a ((2 ^ 64 - 1) - b) k)

module _ {w o p : List ℕ} {f x fixed hit may : ℕ} (R : Rising w o p f x fixed hit may) where
  cells : Within may (get_or w x 0)
  cells k h = rw R.may_is (in_minus (get_or w x 0) (low (at p x + 1)) k)

  -- its own slot is none of these
  not_own : (k : ℕ) → bit may k ≡ 1 → k ≢ at p x
  not_own k b e =
      let h : at p x + 1 ≤ 64 = omega (arith, (own-slot R.fixed_held).slot) in
      omega (arith, ap (bit may) e, ap (λ v. bit v (at p x)) R.may_is, bit-not-from (get_or w x 0) (at p x + 1) (at p x) h (omega arith))

  -- they are open to x
  in_both : (k : ℕ) → k < 64 → bit may k ≡ 1 → bit (bit_and (get_or w x 0) may) k ≡ 1
  in_both k h b = omega (arith, bit-and (get_or w x 0) may k, cells k h, bit-lt (get_or w x 0) k)

  pub rising_vacant : UnheldIn o p f (bit_and (get_or w x 0) may) (bit_and hit may)
  rising_vacant = unheld_part may R.hit_is

  pub rising-below : {o₁ o₂ p₂ : List ℕ} {f₂ j : ℕ} → Lowered w o₁ x may fixed o₂ p₂ f₂ j → j < 64
  rising-below L = omega (arith, L.slot, (L.complete.all x R.fixed_held.known).slot)

  pub rising_lowered : {o₂ p₂ : List ℕ} {f₂ j : ℕ} → Lowered w o x may fixed o₂ p₂ f₂ j → Lowered w o x (above w p x) fixed o₂ p₂ f₂ j
  rising_lowered L = rw R.may_is at L

  -- the lowest free one
  pub rising_near : {h : ℕ} → Common (bit_and (get_or w x 0) may) f h → Near w o p f x fixed may h
  rising_near {h} H = record {
    fixed_held = R.fixed_held;
    cells = cells;
    below = H.below;
    has = omega (arith, H.left, bit-and (get_or w x 0) may h, bit-lt may h);
    free = H.right;
    none = λ j l b. (H.least j l (in_both j (omega (arith, H.below)) b), not_own j b);
  }

  -- cand are those outside `fixed`
  module _ (fits : fixed < 2 ^ 64) {cand : ℕ} (ec : cand ≡ minus may fixed) where
    in_cand : (k : ℕ) → k < 64 → bit cand k ≡ min (bit may k) (1 - bit fixed k)
    in_cand k h = rw ec (bit-minus may fixed k fits h)

    -- a slot above that a plan gives x is one of cand
    pub rising_stuck : Stuck w o x cand fixed → Stuck w o x (above w p x) fixed
    rising_stuck T q Q A =
        let k = at q x in
        let z : bit may k ≡ 0 = omega (arith, T q Q A, in_cand k (slot_small R.fixed_held Q), not_fixed R.fixed_held Q A, bit-lt may k) in
        rw R.may_is at z

    pub rising_none : cand ≡ 0 → Stuck w o x (above w p x) fixed
    rising_none z = rising_stuck (λ q Q A. ap (λ v. bit v (at q x)) z ∙ bit_empty (at q x))

    -- none of them is free
    module _ (none : bit_and hit may ≡ 0) where
      held : (k : ℕ) → k < 64 → bit may k ≡ 1 → (bit f k ≡ 0) × (k ≢ at p x)
      held k h b = (unheld-none R.fixed_held.complete.table rising_vacant none k h (in_both k h b), not_own k b)

      pub rising_shiftable : Shiftable w o p f x cand fixed
      rising_shiftable = record {
        fixed_held = R.fixed_held;
        cells = λ k h. omega (arith, in_cand k h, cells k h);
        none = λ k h b. held k h (omega (arith, in_cand k h, bit-lt may k));
        apart = λ k h. omega (arith, in_cand k h, bit-lt fixed k, bit-lt may k);
      }

      pub rising_lowerable : {o₁ p₁ : List ℕ} {f₁ k : ℕ} → Shifted w o x cand fixed o₁ p₁ f₁ k × Within f₁ (with f (at p x))
          → Lowerable w o₁ p₁ f₁ x may fixed
      rising_lowerable {k = k} M =
          let below : k < 64 = omega (arith, M.0.slot, (own-slot (still_fixed R.fixed_held M.0)).slot) in
          moved_lowerable R.fixed_held M cells (omega (arith, M.0.from, in_cand k below, bit-lt may k)) (λ j l b. held j (omega arith) b)
