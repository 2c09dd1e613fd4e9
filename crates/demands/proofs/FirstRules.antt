-- Which answers of grade and price are not as by document 01's own rules. Assumes nothing.
use mathlib.Core.Path.{◌≡◌, refl, sym, ◌∙◌}
use mathlib.Core.Logic.{◌⊎◌, inl, inr}
use mathlib.Core.Bool.{Bool, true, false, false≢true}
use mathlib.Core.List.{List, []}
use Prim.Native.Nat.{ℕ, ◌≤◌, ◌<◌}
use native.Mathlib.Decide.{dec_lt}
use native.Mathlib.Omega.{arith}
use borrow.Author.Tests.{eq-eqb, ne_eqb, le-leb, lt-leb}
use Rattle.model.specs.Rota.{table_code}
use Rattle.model.specs.Plans.{plans}
use Rattle.model.specs.Count.{count}
use Rattle.model.specs.Grade.{some_forced, grade_of, rota_grade}
use Rattle.model.proofs.Members.{mem-at}
use Rattle.model.proofs.Plans.{plan-from}
use Rattle.model.proofs.Laws.{few, range}
use Rattle.model.proofs.Grades.{grade_one}
use Rattle.model.proofs.Forced.{single_into, single_from, forced_into, forced_from}
use Rattle.demands.specs.BrittleItems.{some_one_open, open_grade, Regraded}
use Rattle.demands.specs.RuleOrder.{order_before}
use Rattle.demands.specs.FirstRules.{first_grade, Changed, FirstRules}
use Rattle.demands.proofs.Regrading.{Lower, brittle_2, regrading}
use Rattle.demands.proofs.BrittleItems.{brittle-items}

-- ---- the order of the numbers

module _ (number : ℕ) (fits : Bool) where
  one_1 : number ≡ 1 → order_before number fits ≡ 1
  unfolding order_before
  one_1 e = simp (eq-eqb number 1 e)

  many_5 : 1000 ≤ number → order_before number fits ≡ 5
  unfolding order_before
  many_5 m = simp (ne_eqb number 1 (omega arith), le-leb 1000 number m)

  -- up to 999 plans both orders give the same
  few_same : number ≤ 999 → grade_of number fits ≡ order_before number fits
  unfolding grade_of order_before
  few_same l = simp (lt-leb 1000 number (omega arith))

-- and where rule 3 does not fit
none_same : (number : ℕ) → grade_of number false ≡ order_before number false
unfolding grade_of order_before
none_same number = refl

-- ---- the rotas whose grade is another

module _ (n : ℕ) (opens : List ℕ) (c : Changed n opens) where
  five : 1000 ≤ count n opens → first_grade n opens ≡ 5
  unfolding first_grade
  five many = many_5 (count n opens) (some_one_open opens) many

  three_or_four : count n opens ≤ 999 → (first_grade n opens ≡ 3) ⊎ (first_grade n opens ≡ 4)
  unfolding first_grade open_grade
  three_or_four l =
      let same = few_same (count n opens) (some_one_open opens) l in
      let r : Regraded n opens = record { some = c.some; brittle = c.brittle; more_open = elim c.unseen [ inl m ↦ absurd (omega arith) | inr o ↦ o ] } in
      elim (brittle-items.three_or_four n opens r l) [ inl e ↦ inl (sym same ∙ e) | inr e ↦ inr (sym same ∙ e) ]

  lower : Lower (first_grade n opens)
  lower =
      elim (dec_lt 999 (count n opens)) [
        | yes h ↦ inr (inr (five (omega arith)))
        | no h ↦ elim (three_or_four (omega arith)) [ inl e ↦ inl e | inr e ↦ inr (inl e) ]
      ]

  to_2 : rota_grade n opens ≡ 2
  to_2 = brittle_2 n opens c.some c.brittle

-- ---- the grade of an accepted rota, then and now

module _ (n : ℕ) (opens callouts : List ℕ) (ok : table_code n n opens callouts ≡ 0) (some : 0 < count n opens) where
  still_forced : some_one_open opens ≡ true → some_forced n opens ≡ true
  unfolding some_one_open count
  still_forced e =
      let o = single_from opens e in
      let P = plan-from n opens (few n n opens callouts ok) (range n n opens callouts ok) _ (mem-at [] (plans n opens) 0 some) in
      forced_into n opens o.0 o.1 (brittle-items.one_open n opens callouts ok _ P o.0 o.1 o.2)

  -- with an item that has one open slot and 2 to 999 plans rule 3 fits by both readings, in both orders
  two_or_more : 1 < count n opens → (one : Bool) → some_one_open opens ≡ one → some_forced n opens ≡ true
      → (grade_of (count n opens) true ≡ order_before (count n opens) one) ⊎ Changed n opens
  unfolding some_one_open
  two_or_more h true e d =
      elim (dec_lt 999 (count n opens)) [
        | yes m ↦ inr record { some = h; brittle = forced_from n opens d; unseen = inl (omega arith) }
        | no m ↦ inl (few_same (count n opens) true (omega arith))
      ]
  two_or_more h false e d =
      inr record { some = h; brittle = forced_from n opens d; unseen = inr (λ i g o. false≢true (sym e ∙ single_into opens i g o)) }

  else_same : (rota_grade n opens ≡ first_grade n opens) ⊎ Changed n opens
  unfolding rota_grade first_grade
  else_same = go (some_one_open opens) (some_forced n opens) refl refl
    where
      go : (one forced : Bool) → some_one_open opens ≡ one → some_forced n opens ≡ forced
          → (grade_of (count n opens) forced ≡ order_before (count n opens) one) ⊎ Changed n opens
      go true false e d = absurd (false≢true (sym d ∙ still_forced e))
      go false false e d = inl (none_same (count n opens))
      go one true e d = elim (dec_lt 1 (count n opens)) [
        | yes h ↦ two_or_more h one e d
        | no h ↦ inl (grade_one (count n opens) true (omega arith) ∙ sym (one_1 (count n opens) one (omega arith)))
      ]

-- ---- the theorem

pub first_rules : FirstRules
unfolding first_grade rota_grade
first_rules =
    record {
      five = five;
      three_or_four = three_or_four;
      answers = regrading record { lower = lower; to_2 = to_2; else_same = else_same };
      seven_was = refl;
      seven_is = refl;
    }
