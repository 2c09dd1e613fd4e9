-- Which answers of grade and price are not the same as if grade rule 3 counted open slots. Assumes nothing.
use mathlib.Core.Path.{◌≡◌, refl, sym, ap, ◌∙◌}
use mathlib.Core.Logic.{◌⊎◌, inl, inr}
use mathlib.Core.Bool.{Bool, true, false, false≢true}
use mathlib.Core.List.{List, []}
use Prim.Native.Nat.{ℕ, ◌^◌, ◌≤◌, ◌<◌}
use native.Mathlib.Decide.{dec_lt}
use native.Mathlib.Omega.{arith}
use lib.Count.{ones}
use lib.ListN.{length, get_or}
use Rattle.words.proofs.SetLaws.{one_slot}
use Rattle.model.specs.Rota.{table_code}
use Rattle.model.specs.Plans.{plans, IsPlan}
use Rattle.model.specs.Allowed.{allowed_word}
use Rattle.model.specs.Count.{count}
use Rattle.model.specs.Grade.{some_forced, grade_of, rota_grade}
use Rattle.model.proofs.Members.{is_true, is_false, mem-at}
use Rattle.model.proofs.Plans.{plan-from}
use Rattle.model.proofs.Laws.{few, range}
use Rattle.model.proofs.Grades.{grade_one, grade-many, grade-few, grade-more}
use Rattle.model.proofs.Forced.{single_into, single_from, forced_into, forced_from, one_allowed}
use Rattle.demands.specs.BrittleItems.{some_one_open, open_grade, Regraded, BrittleItems}
use Rattle.demands.proofs.Regrading.{Lower, brittle_2, Change, regrading, keeps_2}

-- ---- the rotas whose grade is another

module _ (n : ℕ) (opens : List ℕ) (r : Regraded n opens) where
  by_open : open_grade n opens ≡ grade_of (count n opens) false
  unfolding some_one_open open_grade
  by_open = ap (grade_of (count n opens)) (is_false _ (λ t. let o = single_from opens (is_true _ t) in r.more_open o.0 o.1 o.2))

  three_or_four : count n opens ≤ 999 → (open_grade n opens ≡ 3) ⊎ (open_grade n opens ≡ 4)
  three_or_four few =
      elim (dec_lt 23 (count n opens))
      [ yes h ↦ inr (by_open ∙ grade-more _ (omega arith) few) | no h ↦ inl (by_open ∙ grade-few _ r.some (omega arith)) ]

  five : 1000 ≤ count n opens → open_grade n opens ≡ 5
  five many = by_open ∙ grade-many _ many

  lower : Lower (open_grade n opens)
  lower =
      elim (dec_lt 999 (count n opens)) [
        | yes h ↦ inr (inr (five (omega arith)))
        | no h ↦ elim (three_or_four (omega arith)) [ inl e ↦ inl e | inr e ↦ inr (inl e) ]
      ]

  to_2 : rota_grade n opens ≡ 2
  to_2 = brittle_2 n opens r.some r.brittle

-- ---- the grade of an accepted rota, by both readings

module _ (n : ℕ) (opens callouts : List ℕ) (ok : table_code n n opens callouts ≡ 0) where
  F : length opens ≤ 64
  F = few n n opens callouts ok

  R : (i : ℕ) → i < length opens → get_or opens i 0 < 2 ^ n
  R = range n n opens callouts ok

  -- every plan gives the item its open slot
  one_open_brittle : (p : List ℕ) → IsPlan opens p → (i : ℕ) → i < length opens → ones (get_or opens i 0) ≡ 1 → ones (allowed_word n opens i) ≡ 1
  one_open_brittle p P i h e =
      one_allowed n opens F R p P i h (λ q Q. one_slot (get_or opens i 0) (get_or p i 0) (get_or q i 0) e (P.open_cell i h) (Q.open_cell i h))

  module _ (some : 0 < count n opens) where
    plan : (p : List ℕ) × IsPlan opens p
    unfolding count
    plan = (_, plan-from n opens F R _ (mem-at [] (plans n opens) 0 some))

    still_forced : some_one_open opens ≡ true → some_forced n opens ≡ true
    unfolding some_one_open
    still_forced e =
        let o = single_from opens e in
        forced_into n opens o.0 o.1 (one_open_brittle plan.0 plan.1 o.0 o.1 o.2)

    -- with one plan rule 1 comes first
    now_forced : some_one_open opens ≡ false → some_forced n opens ≡ true → (grade_of (count n opens) true ≡ grade_of (count n opens) false) ⊎ Regraded n opens
    unfolding some_one_open
    now_forced e d =
        elim (dec_lt 1 (count n opens)) [
          | no h ↦ inl (grade_one _ true (omega arith) ∙ sym (grade_one _ false (omega arith)))
          | yes h ↦ inr record { some = h; brittle = forced_from n opens d; more_open = λ i g o. false≢true (sym e ∙ single_into opens i g o) }
        ]

    else_same : (rota_grade n opens ≡ open_grade n opens) ⊎ Regraded n opens
    unfolding rota_grade open_grade
    else_same = go (some_one_open opens) (some_forced n opens) refl refl
      where
        go : (b c : Bool) → some_one_open opens ≡ b → some_forced n opens ≡ c → (grade_of (count n opens) c ≡ grade_of (count n opens) b) ⊎ Regraded n opens
        go true c e d = inl (ap (grade_of (count n opens)) (sym d ∙ still_forced e))
        go false true e d = now_forced e d
        go false false e d = inl refl

-- ---- the theorem

change : Change open_grade Regraded
change = record { lower = lower; to_2 = to_2; else_same = else_same }

pub brittle-items : BrittleItems
brittle-items =
    record { one_open = one_open_brittle; stays = keeps_2 change; three_or_four = three_or_four; five = five; answers = regrading change }
