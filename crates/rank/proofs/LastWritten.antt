-- What `tally_last` leaves is what the walks ask for. Assumes nothing.
use mathlib.Core.Path.{◌≡◌, ap, ◌∙◌}
use mathlib.Core.List.{List}
use Prim.Native.Nat.{ℕ, ◌≤◌}
use native.Mathlib.Omega.{arith}
use lib.ListN.{length, get_or, drop, length-append, get_or-append}
use Rattle.model.specs.Count.{last_counts}
use Rattle.model.specs.Refusal.{written}
use Rattle.model.proofs.LastItems.{length_lasts, last_at}
use Rattle.rank.specs.LastTally.{LastTally}

pub last_tally : (opens old : List ℕ) {new : List ℕ} → length opens ≤ 20 → new ≡ written 0 (last_counts (length opens) opens) old → LastTally opens new
unfolding written
last_tally opens old few q =
    let n = length opens in
    let values = last_counts n opens in
    let size = length_lasts n opens in
    let kept = drop (length values) old in
    record {
      few = few;
      words = omega (arith, ap length q ∙ length-append values kept);
      counts = λ set h. ap (λ l. get_or l set 0) q ∙ get_or-append values kept 0 set (omega arith) ∙ last_at n opens set h;
    }
