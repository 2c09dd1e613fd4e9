-- The searches speak of 64 slots, the calls of m: of an accepted rota with at most 64 slots the plans are the same, and so are the
-- answers. Assumes nothing.
use mathlib.Core.Path.{◌≡◌, sym, ap, ap₂, ◌∙◌}
use mathlib.Core.List.{List, map}
use Prim.Native.Nat.{ℕ, ◌^◌, ◌<◌, ◌≤◌}
use native.Mathlib.Nat.{lt_of_lt_of_le}
use native.Mathlib.Omega.{arith}
use lib.Pow.{pow_mono}
use lib.Dec.{eqb}
use lib.ListN.{length, get_or}
use lib.Seq.{ext_get_or}
use Rattle.model.specs.Lists.{keep, any, same, before, least}
use Rattle.model.specs.Rota.{table_code}
use Rattle.model.specs.Refusal.{unless, plan_code}
use Rattle.model.specs.Plans.{plans, blank, is_plan, plans_after}
use Rattle.model.specs.Fewest.{callouts_of, fewest, fewest_plans}
use Rattle.model.specs.CellPlans.{holds, cell_plan, cell_plans}
use Rattle.model.specs.Allowed.{allowed_word, allowed_words}
use Rattle.model.specs.Grade.{some_single, some_forced}
use Rattle.model.specs.PlanAnswers.{refused, first_of, first_from, next_of, next_from, fewest_of, fewest_from}
use Rattle.model.proofs.Order.{rising-same}
use Rattle.model.proofs.Plans.{plans_rise, plan-from, plan_into}
use Rattle.model.proofs.Allowed.{length-allowed, allowed_at, allowed-lt, allowed_into, allowed-from, allowed_by}
use Rattle.model.proofs.Laws.{few, range}

module _ (n m : ℕ) (opens callouts : List ℕ) (ok : table_code n m opens callouts ≡ 0) (slots : m ≤ 64) where
  wide : (i : ℕ) → i < length opens → get_or opens i 0 < 2 ^ 64
  wide i h = lt_of_lt_of_le (range n m opens callouts ok i h) (pow_mono slots)

  pub plans_wide : plans 64 opens ≡ plans m opens
  plans_wide =
      let f = few n m opens callouts ok in
      let r = range n m opens callouts ok in
      rising-same (plans 64 opens) (plans m opens) (plans_rise 64 opens) (plans_rise m opens)
      (λ p h. plan_into m opens f r p (plan-from 64 opens f wide p h))
      (λ p h. plan_into 64 opens f wide p (plan-from m opens f r p h))

  pub first_wide : first_from 64 opens ≡ first_from m opens
  unfolding first_from
  first_wide = ap (first_of opens) plans_wide

  pub next_wide : (g : List ℕ) → next_from 64 opens g ≡ next_from m opens g
  unfolding next_from is_plan plans_after
  next_wide g = ap (λ l. unless refused (plan_code (any (same g) l)) (next_of (keep (before g) l))) plans_wide

  pub fewest-number_wide : fewest 64 opens callouts ≡ fewest m opens callouts
  unfolding fewest
  fewest-number_wide = ap (λ l. least (map (callouts_of callouts) l)) plans_wide

  pub fewest_wide : (cap : ℕ) → fewest_from 64 opens callouts cap ≡ fewest_from m opens callouts cap
  unfolding fewest_from fewest_plans
  fewest_wide cap = ap₂ (λ k l. fewest_of opens cap k (keep (λ p. eqb (callouts_of callouts p) k) l)) fewest-number_wide plans_wide

  pub cell_wide : (i j : ℕ) → cell_plan 64 opens i j ≡ cell_plan m opens i j
  unfolding cell_plan cell_plans
  cell_wide i j = ap (λ l. get_or (keep (holds (length opens) i j) l) 0 blank) plans_wide

  allowed-word_wide : (i : ℕ) → i < length opens → allowed_word 64 opens i ≡ allowed_word m opens i
  allowed-word_wide i h =
      let f = few n m opens callouts ok in
      let r = range n m opens callouts ok in
      allowed_by 64 opens f wide i (allowed_word m opens i) h (lt_of_lt_of_le (allowed-lt m opens i) (pow_mono slots)) (allowed-from m opens f r i)
      (λ p P. allowed_into m opens f r p P i h)

  pub allowed_wide : allowed_words 64 opens ≡ allowed_words m opens
  allowed_wide =
      ext_get_or 0 (allowed_words 64 opens) (allowed_words m opens) (length-allowed 64 opens ∙ sym (length-allowed m opens)) (λ i l.
      let h : i < length opens = omega (arith, length-allowed 64 opens) in
      allowed_at 64 opens i h ∙ allowed-word_wide i h ∙ sym (allowed_at m opens i h))

  pub forced_wide : some_forced 64 opens ≡ some_forced m opens
  unfolding some_forced
  forced_wide = ap some_single allowed_wide
