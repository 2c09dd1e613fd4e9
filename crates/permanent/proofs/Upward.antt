-- The loop of `count_subsets`: the table in the making, and what a turn writes. Assumes nothing.
use mathlib.Core.Path.{◌≡◌, refl, sym, ap, ap₂, ◌∙◌}
use mathlib.Core.Logic.{◌≢◌, ⊎_elim}
use mathlib.Core.Bool.{cond}
use mathlib.Core.List.{List, ◌++◌}
use Prim.Native.Nat.{ℕ, suc, ◌+◌, ◌-◌, ◌*◌, ◌^◌, ◌≤◌, ◌<◌}
use native.Mathlib.Nat.{zero-add, zero-mul}
use native.Mathlib.Decide.{le_ind}
use native.Mathlib.Numerals.{add-one}
use native.Mathlib.Omega.{arith}
use lib.Count.{ones}
use lib.Dec.{eqb}
use lib.ListN.{length, get_or, take, set, length-set, get_or-append}
use lib.Pow.{pow_pos}
use lib.Seq.{paste, paste-zero, paste-suc, length-paste, take-length, length-take-le, get_or-take, drop-set-lt}
use Rattle.words.specs.Word.{bit, without}
use Rattle.words.specs.Sum.{sum}
use Rattle.words.proofs.Bits.{bit_cases, bit_high, without-less}
use Rattle.words.proofs.Sums.{map_below, length-map-below, sum-suc, sum-zero, sum_cong}
use Rattle.words.proofs.SetLaws.{ones_none}
use Rattle.model.specs.Count.{count, subset_count, subset_counts}
use Rattle.model.specs.Refusal.{written}
use Rattle.model.proofs.Subsets.{subset_empty, subset_step, subset_fits, complete, count_by_set, count_fits}
use Rattle.permanent.specs.Served.{served}

-- the words below s are written, the further ones are those of `old`, and `plans` is what the sets below s add to the count
pub record Upward (m : ℕ) (opens old counts : List ℕ) (end s plans : ℕ) : Type 0 where
  pub sizes : (m ≤ 20) × (2 ^ m ≤ length old)
  pub last : end ≡ 2 ^ m
  pub some : s ≢ 0
  pub within : s ≤ 2 ^ m
  pub filled : counts ≡ paste old 0 (subset_counts m opens) s
  pub summed : plans ≡ sum (complete m opens) s

-- a turn writes `ways` and adds to `plans`; 20! is the bound
pub record UpwardTurn (m : ℕ) (opens old counts : List ℕ) (end s plans ways added : ℕ) : Type 0 where
  pub fits : plans + added ≤ 2432902008176640000
  pub next : Upward m opens old (set counts s ways) end (s + 1) (plans + added)

module _ (m : ℕ) (opens : List ℕ) where
  length-table : length (subset_counts m opens) ≡ 2 ^ m
  unfolding subset_counts
  length-table = length-map-below (subset_count m opens) (2 ^ m)

  table_at : (i : ℕ) → i < 2 ^ m → get_or (subset_counts m opens) i 0 ≡ subset_count m opens i
  unfolding subset_counts
  table_at i l = map_below (subset_count m opens) 0 (2 ^ m) i l

  -- one word more
  stored : (old : List ℕ) {counts : List ℕ} {s ways : ℕ} → 2 ^ m ≤ length old → s < 2 ^ m → counts ≡ paste old 0 (subset_counts m opens) s
      → ways ≡ subset_count m opens s → set counts s ways ≡ paste old 0 (subset_counts m opens) (suc s)
  stored old {s = s} room h f e =
      ap₂ (λ l v. set l s v) f (e ∙ sym (table_at s h))
      ∙ ap (λ i. set (paste old 0 (subset_counts m opens) s) i (get_or (subset_counts m opens) s 0)) (sym (zero-add s))
      ∙ paste-suc old 0 (subset_counts m opens) s 0 (omega arith) (omega (arith, length-table))

-- the empty set's word is written, over what the table has
pub upward_start : {m : ℕ} {opens : List ℕ} (old : List ℕ) {end plans : ℕ} → (m ≤ 20) × (2 ^ m ≤ length old) → end ≡ 2 ^ m
    → plans ≡ cond (eqb 0 (length opens)) 1 0 → Upward m opens (set old 0 1) (set old 0 1) end 1 plans
unfolding ones
upward_start {m} {opens} old sizes e q =
    let none = subset_empty m opens in
    record {
      sizes = (sizes.0, rw length-set sizes.1);
      last = e;
      some = λ z. omega arith;
      within = pow_pos m;
      filled = stored m opens old sizes.1 (pow_pos m) (paste-zero old 0 (subset_counts m opens)) (sym none)
          ∙ ap (take 1 (subset_counts m opens) ++◌) (sym (drop-set-lt 1 old 0 1 (omega arith)));
      summed = q ∙ sym (sum-suc (complete m opens) 0 ∙ ap₂ (λ x y. x + cond (eqb 0 (length opens)) y 0) (sum-zero (complete m opens)) none ∙ zero-add _);
    }

-- a sum over the slots of a word of m bits
sum_bits : (f : ℕ → ℕ) (m w k : ℕ) → w < 2 ^ m → m ≤ k → sum (λ j. bit w j * f j) k ≡ sum (λ j. bit w j * f j) m
sum_bits f m w k h l =
    le_ind (λ (i : ℕ). sum (λ j. bit w j * f j) i ≡ sum (λ j. bit w j * f j) m) refl
    (λ i g e. omega (arith, sum-suc (λ j. bit w j * f j) i, ap (◌* f i) (bit_high m w i h g) ∙ zero-mul (f i))) k l

module _ {m : ℕ} {opens old counts : List ℕ} {end s plans : ℕ} (u : Upward m opens old counts end s plans) where
  pub length-counts : length counts ≡ length old
  length-counts =
      ap length u.filled
      ∙ length-paste old 0 (subset_counts m opens) s (omega (arith, u.sizes, u.within)) (omega (arith, length-table m opens, u.within))

  known : (i : ℕ) → i < s → get_or counts i 0 ≡ subset_count m opens i
  known i h =
      let all = length-take-le s (subset_counts m opens) (omega (arith, length-table m opens, u.within)) in
      let short : i < length (take s (subset_counts m opens)) = omega arith in
      rw (u.filled, get_or-append, get_or-take) (table_at m opens i (omega (arith, u.within)))

  module _ (more : s < end) where
    pub below : s < length counts
    below = omega (arith, u.last, u.sizes, length-counts)

    pub sized : {k : ℕ} → k ≡ ones s → 0 < k
    sized e = let d : ones s ≢ 0 = λ z. u.some (ones_none m s (omega (arith, u.last)) z) in omega arith

    -- the word of s, from those below it
    pub word : {k w : ℕ} → k ≡ ones s → w ≡ get_or opens (k - 1) 0 → served w counts s ≡ subset_count m opens s
    unfolding served
    word {k} {w} e q =
        let inside : s < 2 ^ m = omega (arith, u.last) in
        let some = sized e in
        sum_bits (λ j. bit w j * get_or counts (without s j) 0) m s 64 inside (omega (arith, u.sizes))
        ∙ sum_cong _ _ m (λ j l. ⊎_elim
        (λ z. ap (◌* (bit w j * get_or counts (without s j) 0)) z ∙ zero-mul _ ∙ sym (ap (◌* (bit w j * subset_count m opens (without s j))) z ∙ zero-mul _))
        (λ o. ap (λ x. bit s j * (bit w j * x)) (known (without s j) (without-less s j o))) (bit_cases s j))
        ∙ ap (λ v. sum (λ j. bit s j * (bit v j * subset_count m opens (without s j))) m) q
        ∙ sym (subset_step m opens s (k - 1) (omega arith))

    pub room : {k w : ℕ} → k ≡ ones s → w ≡ get_or opens (k - 1) 0 → (s ≤ length counts) × (served w counts s < 2 ^ 64)
    room e q = (omega (arith, below), omega (arith, word e q, subset_fits m opens u.sizes.0 s (omega (arith, u.last))))

    pub turn : {k w ways added : ℕ} → k ≡ ones s → w ≡ get_or opens (k - 1) 0 → ways ≡ served w counts s → added ≡ cond (eqb k (length opens)) ways 0
        → UpwardTurn m opens old counts end s plans ways added
    turn {ways = ways} e q v a =
        let inside : s < 2 ^ m = omega (arith, u.last) in
        let is_word : ways ≡ subset_count m opens s = v ∙ word e q in
        let adds = a ∙ ap₂ (λ i x. cond (eqb i (length opens)) x 0) e is_word in
        let summed = ap₂ ◌+◌ u.summed adds ∙ sym (sum-suc (complete m opens) s) in
        record {
          fits = rw summed (count_fits m opens u.sizes.0 (suc s) inside);
          next = record {
            sizes = u.sizes;
            last = u.last;
            some = λ z. omega arith;
            within = omega arith;
            filled = rw add-one (stored m opens old u.sizes.1 inside u.filled is_word);
            summed = rw add-one summed;
          };
        }

pub upward_end : {m : ℕ} {opens : List ℕ} (old : List ℕ) {counts : List ℕ} {end s plans : ℕ} → Upward m opens (set old 0 1) counts end s plans → end ≤ s
    → (plans ≡ count m opens) × (counts ≡ written 0 (subset_counts m opens) old)
unfolding written
upward_end {m} {opens} old {s = s} u l =
    let all : s ≡ 2 ^ m = omega (arith, u.last, u.within) in
    let full : s ≡ length (subset_counts m opens) = omega (arith, length-table m opens) in
    let first : 0 < length (subset_counts m opens) = omega (arith, length-table m opens, pow_pos m) in
    (u.summed ∙ ap (sum (complete m opens)) all ∙ sym (count_by_set m opens), rw (u.filled, full, take-length, zero-add, drop-set-lt) refl)
