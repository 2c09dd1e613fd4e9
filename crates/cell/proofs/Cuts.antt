-- The plans of the cut words are the plans that hold the cell, so their first plan is the cell's. Assumes nothing.
use mathlib.Core.Path.{◌≡◌, sym, ap, ◌∙◌}
use mathlib.Core.Logic.{◌≢◌}
use mathlib.Core.List.{List, [], ◌∷◌}
use Prim.Native.Nat.{ℕ, ◌^◌, ◌<◌, ◌≤◌}
use native.Mathlib.Nat.{lt_of_le_of_lt}
use native.Mathlib.Omega.{arith}
use lib.Pow.{pow-lt}
use lib.ListN.{length, get_or, take, replicate}
use lib.Seq.{get_or-take, length-take-le}
use Rattle.words.specs.Word.{bit, without, low}
use Rattle.words.proofs.Bits.{bit-lt, bit-low, bit_single, bit_single_other, bit-without_other, without-le}
use Rattle.words.proofs.SetLaws.{bit-without-le}
use Rattle.model.specs.declared.PlanAnswer.{PlanAnswer}
use Rattle.model.specs.Plans.{plans, blank, IsPlan}
use Rattle.model.specs.CellPlans.{cell_plans, cell_plan, Holds}
use Rattle.model.specs.PlanAnswers.{given, no_plan, first_of, first_from}
use Rattle.model.proofs.Order.{rising-same}
use Rattle.model.proofs.Plans.{plans_rise, plan-from, plan_into, plan_across}
use Rattle.model.proofs.CellPlans.{cell-plans_rise, cell-plans-from, cell-plans_into, cell-plan-unheld}
use Rattle.augment.specs.Search.{Takeable, Taken}
use Rattle.augment.proofs.Moves.{same_or}
use Rattle.maximum.specs.Maximum.{Fillable}
use Rattle.maximum.proofs.Filling.{all-fillable, take-fillable}
use Rattle.least.specs.Least.{Settled}
use Rattle.least.proofs.Firsts.{first_found}
use Rattle.cell.specs.Cut.{OpenCell, Cut}

-- ---- no plan holds a cell outside, or one that is not open

module _ (w : List ℕ) (i j : ℕ) (few : length w ≤ 64) (range : (x : ℕ) → x < length w → get_or w x 0 < 2 ^ 64) where
  pub unheld : ((p : List ℕ) → Holds w i j p → ⊥) → given blank 0 ≡ given (cell_plan 64 w i j) 0
  unheld none = ap (λ p. given p 0) (sym (cell-plan-unheld 64 w i j few range none))

  pub item-outside : length w ≤ i → given blank 0 ≡ given (cell_plan 64 w i j) 0
  item-outside h = unheld (λ p H. omega (arith, H.item))

  pub shut : bit (get_or w i 0) j ≡ 0 → given blank 0 ≡ given (cell_plan 64 w i j) 0
  shut b = unheld (λ p H. omega (arith, ap (bit (get_or w i 0)) H.slot, H.plan.open_cell i H.item))

-- ---- the cut words

module _ {w : List ℕ} {i j : ℕ} (O : OpenCell w i j) (range : (x : ℕ) → x < length w → get_or w x 0 < 2 ^ 64) {r : List ℕ} (C : Cut w i j r) where
  abbrev v : List ℕ
  v = take (length w) r

  sized : length v ≡ length w
  sized = length-take-le (length w) r (omega (arith, C.sized))

  at_item : get_or v i 0 ≡ 2 ^ j
  at_item = get_or-take (length w) r i 0 O.item ∙ C.own

  at_other : (x : ℕ) → x < length w → x ≢ i → get_or v x 0 ≡ without (get_or w x 0) j
  at_other x h d = get_or-take (length w) r x 0 h ∙ C.others x h d

  cut-few : length v ≤ 64
  cut-few = omega (arith, sized)

  cut_range : (x : ℕ) → x < length v → get_or v x 0 < 2 ^ 64
  cut_range x h = same_or x i
      (λ e. rw (e, at_item) (pow-lt O.slot))
      (λ d. rw (at_other x (omega (arith, sized)) d) (lt_of_le_of_lt (without-le (get_or w x 0) j) (range x (omega (arith, sized)))))

  -- ---- their plans

  -- a slot in a cut word is the cell's, at its item; elsewhere another that was open
  cut_open : (p : List ℕ) → Holds w i j p → (x : ℕ) → x < length v → bit (get_or v x 0) (get_or p x 0) ≡ 1
  cut_open p H x h =
      let g : x < length w = omega (arith, sized) in
      same_or x i
      (λ e. rw (e, at_item, H.slot) (bit_single j))
      (λ d. rw (at_other x g d)
      (bit-without_other (get_or w x 0) j (get_or p x 0) (λ e. d (H.plan.once x i g O.item (e ∙ sym H.slot))) ∙ H.plan.open_cell x g))

  cut-slot : (p : List ℕ) → IsPlan v p → get_or p i 0 ≡ j
  cut-slot p P =
      let b : bit (2 ^ j) (get_or p i 0) ≡ 1 = rw at_item at (P.open_cell i (omega (arith, sized, O.item))) in
      same_or (get_or p i 0) j (λ e. e) (λ d. absurd (omega (arith, bit_single_other j (get_or p i 0) d)))

  open_cut : (p : List ℕ) → IsPlan v p → (x : ℕ) → x < length w → bit (get_or w x 0) (get_or p x 0) ≡ 1
  open_cut p P x h = same_or x i
      (λ e. rw (e, cut-slot p P) O.may)
      (λ d.
      let b : bit (without (get_or w x 0) j) (get_or p x 0) ≡ 1 = rw (at_other x h d) at (P.open_cell x (omega (arith, sized))) in
      omega (arith, bit-without-le (get_or w x 0) j (get_or p x 0), bit-lt (get_or w x 0) (get_or p x 0)))

  pub cut-plans : plans 64 v ≡ cell_plans 64 w i j
  cut-plans =
      rising-same (plans 64 v) (cell_plans 64 w i j) (plans_rise 64 v) (cell-plans_rise 64 w i j)
      (λ p h.
      let P = plan-from 64 v cut-few cut_range p h in
      cell-plans_into 64 w i j O.few range p (record { plan = plan_across (sym sized) P (open_cut p P); item = O.item; slot = cut-slot p P }))
      (λ p h.
      let H = cell-plans-from 64 w i j O.few range p h in
      plan_into 64 v cut-few cut_range p (plan_across sized H.plan (cut_open p H)))

  -- ---- the answers

  pub cut-none : ((p : List ℕ) → IsPlan v p → ⊥) → given blank 0 ≡ given (cell_plan 64 w i j) 0
  cut-none none = unheld w i j O.few range (λ p H. none p (plan_across sized H.plan (cut_open p H)))

  pub cut_found : {p r : List ℕ} → Settled v p 0 r → given r 0 ≡ given (cell_plan 64 w i j) 0
  unfolding first_from first_of no_plan cell_plan
  cut_found {r = q} S = go (cell_plans 64 w i j) (first_found v cut-few cut_range S ∙ ap (first_of v) cut-plans)
    where
      go : (l : List (List ℕ)) → given q 0 ≡ first_of v l → given q 0 ≡ given (get_or l 0 blank) 0
      go [] e = absurd (omega (arith, ap (λ (a : PlanAnswer). a.code) e))
      go (p ∷ rest) e = e

  -- ---- the matching that holds the cell alone

  none_yet : Fillable v (replicate 64 0) (replicate 64 0) (low 64) (low (length w))
  none_yet = all-fillable v cut-few cut_range (low (length w)) (ap low (sym sized))

  pub cell_takeable : Takeable v (replicate 64 0) (replicate 64 0) (low 64) i j
  cell_takeable = record {
    table = none_yet.table;
    known = omega (arith, sized, O.item);
    exposed = none_yet.exposed i (bit-low (length w) i O.item);
    below = O.slot;
    hole = bit-low 64 j O.slot;
    may = rw at_item (bit_single j);
  }

  pub cell-fillable : {o p : List ℕ} {f : ℕ} → Taken v (replicate 64 0) (replicate 64 0) (low 64) i j o p f → {wanting : ℕ} → wanting ≡ low (length w)
      → Fillable v o p f (without wanting i)
  cell-fillable T e = rw e (take-fillable none_yet T)
