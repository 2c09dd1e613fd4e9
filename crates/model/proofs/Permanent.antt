-- The permanent of the table is the number of complete plans. Assumes nothing.
use mathlib.Core.Path.{◌≡◌, refl, sym, ap₂, ◌∙◌}
use mathlib.Core.Bool.{Bool, true, false, ◌&&◌}
use mathlib.Core.List.{List, [], ◌∷◌}
use Prim.Native.Nat.{ℕ, ◌*◌}
use native.Mathlib.Nat.{suc_inj}
use native.Mathlib.Omega.{arith}
use lib.ListN.{length, length-map}
use Rattle.words.specs.Word.{has}
use Rattle.words.specs.Sum.{below}
use Rattle.model.specs.Plans.{arrangements, cells_open, matchings, padded, plans}
use Rattle.model.specs.Count.{count, product, permanent}
use Rattle.model.proofs.Sets.{one, bit_is, total_tests}
use Rattle.model.proofs.Plans.{arrangements-from}

times : (a b : Bool) → one a * one b ≡ one (a && b)
times true true = refl
times true false = refl
times false true = refl
times false false = refl

-- a product of zeros and ones is 1 exactly if every factor is
product_is : (opens p : List ℕ) → length p ≡ length opens → product opens p ≡ one (cells_open opens p)
unfolding product cells_open
product_is [] [] e = refl
product_is [] (s ∷ p) e = absurd (omega arith)
product_is (w ∷ opens) [] e = absurd (omega arith)
product_is (w ∷ opens) (s ∷ p) e = ap₂ ◌*◌ (bit_is w s) (product_is opens p (suc_inj e)) ∙ times (has w s) (cells_open opens p)

pub count-matchings : (m : ℕ) (opens : List ℕ) → count m opens ≡ length (matchings opens (length opens) (below m))
unfolding count plans
count-matchings m opens = length-map (matchings opens (length opens) (below m)) padded

pub permanent_is_count : (m : ℕ) (opens : List ℕ) → permanent m opens ≡ count m opens
unfolding permanent matchings
permanent_is_count m opens =
    total_tests (cells_open opens) (product opens) (arrangements (length opens) (below m))
    (λ p h. product_is opens p (arrangements-from (length opens) (below m) h).sized)
    ∙ sym (count-matchings m opens)
