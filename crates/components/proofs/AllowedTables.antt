-- The words of the items stand first in a table of allowed slots. Assumes nothing.
use mathlib.Core.Path.{◌≡◌, sym, ◌∙◌}
use mathlib.Core.List.{List}
use Prim.Native.Nat.{ℕ, ◌≤◌, ◌<◌}
use native.Mathlib.Omega.{arith}
use lib.ListN.{length, take}
use lib.Seq.{ext_get_or, get_or-take, length-take-le}
use Rattle.model.specs.Allowed.{allowed_words}
use Rattle.model.proofs.Allowed.{length-allowed, allowed_at}
use Rattle.components.specs.Component.{AllowedTable}

pub allowed_front : {w r : List ℕ} → length w ≤ 64 → AllowedTable w r → take (length w) r ≡ allowed_words 64 w
allowed_front {w} {r} few A =
    let n = length w in
    let l : length (take n r) ≡ n = length-take-le n r (omega (arith, A.sized)) in
    ext_get_or 0 (take n r) (allowed_words 64 w) (l ∙ sym (length-allowed 64 w)) (λ i h.
    let item : i < n = omega arith in
    get_or-take n r i 0 item ∙ A.word i item ∙ sym (allowed_at 64 w i item))
