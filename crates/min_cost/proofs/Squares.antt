-- An accepted rota has as many slots as items. Assumes nothing.
use mathlib.Core.Path.{◌≡◌, sym, ◌∙◌, subst}
use mathlib.Core.List.{List}
use Prim.Native.Nat.{ℕ, ◌^◌, ◌<◌}
use native.Mathlib.Omega.{arith}
use lib.ListN.{get_or}
use Rattle.model.specs.Rota.{table_code}
use Rattle.model.proofs.Accepted.{accepted}
use Rattle.min_cost.specs.Dual.{Square}

pub squared : (n : ℕ) (opens callouts : List ℕ) → table_code n n opens callouts ≡ 0 → Square opens callouts
squared n opens callouts ok =
    let A = accepted n n opens callouts ok in record {
      few = omega (arith, A.few-items, A.open_words);
      same = A.callout-words ∙ sym A.open_words;
      below = λ i h. subst (λ k. get_or opens i 0 < 2 ^ k) (sym A.open_words) (A.open_range i (omega (arith, A.open_words)));
    }
