-- Two parts that the library compares. Assumes nothing.
use mathlib.Core.Path.{◌≡◌, refl, ap, ap₂}
use mathlib.Core.Bool.{◌&&◌}
use mathlib.Core.List.{List, [], ◌∷◌}
use Prim.Native.Nat.{ℕ}
use native.Mathlib.Omega.{arith}
use lib.Dec.{eqb}
use lib.ListN.{length, replicate}
use Rattle.std.specs.Cmp.Lexicographic.{pointwise}
use Rattle.std.specs.List.{list_all}
use Rattle.std.proofs.lemmas.Bool.Decides.{nat_tests}
use Rattle.model.specs.Lists.{same}

eqb-sym : (x y : ℕ) → eqb x y ≡ eqb y x
eqb-sym x y = grind (arith, nat_tests)

-- the library compares with the wanted bytes first
pub same_is : (a b : List ℕ) → same a b ≡ pointwise eqb b a
unfolding same
same_is [] [] = refl
same_is [] (y ∷ b) = refl
same_is (x ∷ a) [] = refl
same_is (x ∷ a) (y ∷ b) = ap₂ ◌&&◌ (eqb-sym x y) (same_is a b)

pub zeros_are : (part : List ℕ) → same part (replicate (length part) 0) ≡ list_all (λ x. eqb x 0) part
unfolding same
zeros_are [] = refl
zeros_are (x ∷ part) = ap (eqb x 0 &&◌) (zeros_are part)
