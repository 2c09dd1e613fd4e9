-- What is asked of a cell's plan holds of the calls. Assumes nothing.
use mathlib.Core.Path.{◌≡◌, refl, sym, ap, ◌∙◌, subst}
use mathlib.Core.Logic.{◌⊎◌, inl, inr, ⊎_elim, ◌↔◌}
use mathlib.Core.List.{List}
use Prim.Native.Nat.{ℕ, ◌^◌, ◌≤◌, ◌<◌}
use native.Mathlib.Omega.{arith}
use lib.ListN.{length, get_or}
use lib.Seq.{get_or-take}
use Rattle.words.specs.Word.{bit}
use Rattle.words.proofs.Bits.{bit_one_lt, bit_cases}
use Rattle.model.specs.declared.PlanAnswer.{PlanAnswer}
use Rattle.model.specs.Rota.{table_code}
use Rattle.model.specs.Plans.{blank}
use Rattle.model.specs.CellPlans.{cell_plan, Holds, FirstHolding}
use Rattle.model.specs.Allowed.{allowed_word}
use Rattle.model.specs.PlanAnswers.{given, refused, cell_answer}
use Rattle.model.specs.UsableAnswers.{usable_code, usable_after}
use Rattle.model.proofs.Accepted.{tables-from}
use Rattle.model.proofs.Refusals.{accepted-answer}
use Rattle.model.proofs.Codes.{cell-code}
use Rattle.model.proofs.Laws.{few, range}
use Rattle.model.proofs.CellPlans.{cell-plan-held, cell-plan-unheld, cell-plan-none}
use Rattle.model.proofs.Allowed.{allowed_at, allowed-bit, bit-allowed}
use Rattle.demands.specs.UsedCells.{UsedCells}
use Rattle.demands.proofs.Contracts.{cell_each, usable_each}
use Rattle.demands.proofs.Demand2.{usable_front}

module _ (n : ℕ) (opens callouts : List ℕ) (i j : ℕ) (z : (cell_answer n n opens callouts i j).code ≡ 0) where
  ok : table_code n n opens callouts ≡ 0
  ok = sym (cell-code n n opens callouts i j) ∙ z

  gives : cell_answer n n opens callouts i j ≡ given (cell_plan n opens i j) 0
  unfolding cell_answer
  gives = sym (accepted-answer (table_code n n opens callouts) ok refused (given (cell_plan n opens i j) 0))

  -- what holds of the cell's plan holds of the plan given
  of_plan : (P : List ℕ → Type 0) → P (cell_plan n opens i j) → P (cell_answer n n opens callouts i j).plan.slots
  of_plan P = subst (λ (a : PlanAnswer). P a.plan.slots) (sym gives)

  F : length opens ≤ 64
  F = few n n opens callouts ok

  R : (x : ℕ) → x < length opens → get_or opens x 0 < 2 ^ n
  R = range n n opens callouts ok

  unheld : ((q : List ℕ) → Holds opens i j q → ⊥) → (cell_answer n n opens callouts i j).plan.slots ≡ blank
  unheld none = of_plan (λ p. p ≡ blank) (cell-plan-unheld n opens i j F R none)

  -- an item of the plan is below n, and so is its slot
  within : (q : List ℕ) → Holds opens i j q → (i < n) × (j < n)
  within q H =
      let size = (tables-from n n opens callouts ok).open_words in
      let lt = bit_one_lt n (get_or opens i 0) (get_or q i 0) (R i H.item) (H.plan.open_cell i H.item) in
      (omega (arith, H.item), omega (arith, H.slot))

  beyond : (n ≤ i) ⊎ (n ≤ j) → (q : List ℕ) → Holds opens i j q → ⊥
  beyond x q H = let w = within q H in ⊎_elim (λ h. omega (arith, w.0)) (λ h. omega (arith, w.1)) x

  module _ (item : i < n) (slot : j < n) (old : List ℕ) (wrote : usable_code n n opens callouts (length old) ≡ 0) where
    word : get_or (usable_after n n opens callouts old) i 0 ≡ allowed_word n opens i
    word =
        sym (get_or-take n (usable_after n n opens callouts old) i 0 item)
        ∙ ap (λ v. get_or v i 0) (usable_front n opens callouts old wrote)
        ∙ allowed_at n opens i (omega (arith, (tables-from n n opens callouts ok).open_words))

    usable-bit : ((cell_answer n n opens callouts i j).plan.slots ≡ blank) ↔ (bit (get_or (usable_after n n opens callouts old) i 0) j ≡ 0)
    usable-bit = of_plan (λ p. (p ≡ blank) ↔ (bit (get_or (usable_after n n opens callouts old) i 0) j ≡ 0)) (rw word (
      λ e. elim (bit_cases (allowed_word n opens i) j) [ inl b ↦ b | inr b ↦ absurd (allowed-bit n opens i j b e) ],
      λ b. cell-plan-unheld n opens i j F R (λ q H.
          omega (arith, bit-allowed n opens i j slot (λ e. cell-plan-none n opens i j F R e q H))),
    ))

-- ---- the theorem

pub used-cells : UsedCells
used-cells =
    record {
      used = cell_each _ (λ n o k i j z q H. of_plan n o k i j z (FirstHolding o i j) (cell-plan-held n o i j (F n o k i j z) (R n o k i j z) q H));
      unused = cell_each _ (λ n o k i j z none. unheld n o k i j z none);
      outside = cell_each _ (λ n o k i j z x. unheld n o k i j z (beyond n o k i j z x));
      zeros = cell_each _ (λ n o k i j z. rw (gives n o k i j z) (refl, refl, refl));
      usable = cell_each _ (λ n o k i j z h g. usable_each _ (λ n' o' k' old sn so sk c.
          rw (sn, so, sk) (usable-bit n o k i j z h g old (rw (sn, so, sk) at c))));
    }
