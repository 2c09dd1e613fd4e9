-- Hall's theorem of the definitions: where no complete plan exists, some set of items is short. By the search, as a theorem: a maximum
-- matching exists, and its exposed items are as many as the deficiency. Assumes nothing.
use mathlib.Core.Path.{◌≡◌, refl}
use mathlib.Core.Logic.{◌≢◌, ⊎_elim}
use mathlib.Core.List.{List}
use Prim.Native.Nat.{ℕ, zero, suc, ◌^◌, ◌≤◌, ◌<◌}
use native.Mathlib.Omega.{arith}
use native.Mathlib.Nat.{lt_of_lt_of_le}
use lib.Count.{ones}
use lib.ListN.{length, get_or}
use lib.Pow.{pow_mono}
use Rattle.words.specs.Word.{low, lowest}
use Rattle.words.proofs.Bits.{low-lt}
use Rattle.words.proofs.SetLaws.{minus-le, ones_none}
use Rattle.model.specs.Plans.{IsPlan}
use Rattle.model.specs.Deficiency.{deficiency}
use Rattle.augment.proofs.Moves.{same_or}
use Rattle.augment.proofs.Exists.{assign_or}
use Rattle.augment.proofs.Completes.{complete-plan}
use Rattle.maximum.specs.Maximum.{Filled}
use Rattle.maximum.proofs.Filling.{Filling, filling_start, filling_end, filling_turn, all-fillable}
use Rattle.maximum.proofs.Deficient.{deficiency_is, none-exposed-complete}

-- a maximum matching of the words w
pub record Maximal (w : List ℕ) : Type 0 where
  pub owner : List ℕ
  pub slot : List ℕ
  pub free : ℕ
  pub exposed : ℕ
  pub dead : ℕ
  pub filled : Filled w owner slot free exposed dead

-- one item more, given what comes of the rest
step : {w : List ℕ} {wanting : ℕ} {o p : List ℕ} {f e d left : ℕ} → Filling w wanting o p f e d left → left ≢ 0
    → ((o p : List ℕ) (f e d rest : ℕ) → rest < left → Filling w wanting o p f e d rest → Maximal w) → Maximal w
step {w} {d = d} {left = left} F some ih =
    let T = filling_turn F (some, refl, refl) in
    ⊎_elim
    (λ r. ih _ _ _ _ _ _ T.less (T.found r.holds))
    (λ r. ih _ _ _ _ _ _ T.less (T.failed refl r.1 refl r.2))
    (assign_or (omega (arith, minus-le (get_or w (lowest left) 0) d, F.table.range (lowest left) T.item)) F.dead.fits (T.assignable refl))

done : {w : List ℕ} {wanting : ℕ} {o p : List ℕ} {f e d left : ℕ} → Filling w wanting o p f e d left → left ≡ 0 → Maximal w
done F z = record { owner = _; slot = _; free = _; exposed = _; dead = _; filled = filling_end F z }

fill : (fuel : ℕ) {w : List ℕ} {wanting : ℕ} {o p : List ℕ} {f e d left : ℕ} → left ≤ fuel → Filling w wanting o p f e d left → Maximal w
fill zero l F = done F (omega arith)
fill (suc fuel) {left = left} l F = same_or left 0 (done F) (λ m. step F m (λ o p f e d rest less G. fill fuel (omega arith) G))

module _ (w : List ℕ) (few : length w ≤ 64) (range : (x : ℕ) → x < length w → get_or w x 0 < 2 ^ 64) where
  maximal : Maximal w
  maximal = fill (low (length w)) (omega arith) (filling_start (lt_of_lt_of_le (low-lt (length w)) (pow_mono few)) (all-fillable w few range _ refl))

  pub hall : ((q : List ℕ) → IsPlan w q → ⊥) → 1 ≤ deficiency w
  hall none =
      let M = maximal in
      same_or (ones M.exposed) 0
      (λ z.
      let full = none-exposed-complete w _ _ _ _ _ M.filled (ones_none (length w) M.exposed M.filled.items z) in
      absurd (none M.slot (complete-plan w _ _ _ full)))
      (λ d. omega (arith, deficiency_is w _ _ _ _ _ M.filled))
