-- Which answers of grade and price are not as before rule 3 of the grade was tried before rule 2. Assumes nothing.
use mathlib.Core.Path.{◌≡◌, refl}
use mathlib.Core.Logic.{◌⊎◌, inl, inr}
use mathlib.Core.Bool.{Bool, true, false}
use mathlib.Core.List.{List}
use Prim.Native.Nat.{ℕ, ◌≤◌}
use native.Mathlib.Decide.{dec_lt}
use native.Mathlib.Omega.{arith}
use borrow.Author.Tests.{ne_eqb, le-leb, lt-leb}
use Rattle.model.specs.Count.{count}
use Rattle.model.specs.Grade.{some_forced, grade_of, rota_grade}
use Rattle.model.proofs.Forced.{forced_from}
use Rattle.demands.specs.RuleOrder.{order_before, grade_before, Overlap, RuleOrder}
use Rattle.demands.proofs.Regrading.{brittle_2, regrading}

-- the two orders agree but where rules 2 and 3 both fit
same-or_both : (number : ℕ) (forced : Bool) → (grade_of number forced ≡ order_before number forced) ⊎ ((1000 ≤ number) × (forced ≡ true))
unfolding grade_of order_before
same-or_both number false = inl refl
same-or_both number true = elim (dec_lt 999 number) [ yes h ↦ inr (omega arith, refl) | no h ↦ inl (simp (lt-leb 1000 number (omega arith))) ]

module _ (n : ℕ) (opens : List ℕ) where
  five : Overlap n opens → grade_before n opens ≡ 5
  unfolding grade_before order_before
  five o = let m = o.many in simp (ne_eqb (count n opens) 1 (omega arith), le-leb 1000 (count n opens) m)

  to_2 : Overlap n opens → rota_grade n opens ≡ 2
  to_2 o = let m = o.many in brittle_2 n opens (omega arith) o.brittle

  else_same : (rota_grade n opens ≡ grade_before n opens) ⊎ Overlap n opens
  unfolding rota_grade grade_before
  else_same =
      elim (same-or_both (count n opens) (some_forced n opens))
      [ inl e ↦ inl e | inr x ↦ inr record { many = x.0; brittle = forced_from n opens x.1 } ]

pub rule_order : RuleOrder
rule_order =
    record {
      five = five;
      answers = regrading record { lower = λ n opens o. inr (inr (five n opens o)); to_2 = to_2; else_same = λ n opens callouts ok some. else_same n opens };
    }
