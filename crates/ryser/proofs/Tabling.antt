-- `count` writes the columns, and starts with every slot: what is left of the formula then is all of it. Assumes nothing.
use Rattle.std.proofs.Common.{◌≡◌, ℕ, ◌+◌, ◌-◌, ◌%◌, ◌^◌, ◌<◌, ◌≤◌, List, length, get_or, set, sym, refl, ap, ◌∙◌, subst, lt_of_lt_of_le, arith, length-set, get_or-set_other, get_or-set_same, pow_pos, pow_mono}
use native.Mathlib.Decide.{ℕ_discrete}
use Rattle.words.specs.Word.{low}
use Rattle.words.proofs.Bits.{low-lt, bit-low}
use Rattle.model.specs.Count.{count}
use Rattle.model.specs.Ryser.{set_product, over_sets, added_terms, taken_terms}
use Rattle.model.proofs.Ryser.{over-sets_cong, ryser_modulo}
use Rattle.ryser.specs.declared.Sums.{Sums}
use Rattle.ryser.specs.RowSums.{sums_of, column_of, no_sums, terms, Underway, SignedSum}

-- the first t columns are written
pub record Tabled (opens : List ℕ) (columns : List Sums) (t : ℕ) : Type 0 where
  pub sized : length columns ≡ 20
  pub written : (k : ℕ) → k < t → get_or columns k no_sums ≡ column_of opens k

pub tabled_none : (opens : List ℕ) (columns : List Sums) → length columns ≡ 20 → Tabled opens columns 0
tabled_none opens columns e = record { sized = e; written = λ k h. absurd (omega arith) }

pub tabled_more : {opens : List ℕ} {columns : List Sums} {t : ℕ} → Tabled opens columns t → t < 20 → {v : Sums} → v ≡ column_of opens t
    → Tabled opens (set columns t v) (t + 1)
tabled_more {opens} {columns} {t} W h {v} e = record {
  sized = length-set columns t v ∙ W.sized;
  written = λ k l. at k l (ℕ_discrete k t);
}
  where
    at : (k : ℕ) → k < t + 1 → Dec (k ≡ t) → get_or (set columns t v) k no_sums ≡ column_of opens k
    at k l (yes q) =
        subst (λ i. get_or (set columns t v) i no_sums ≡ column_of opens i) (sym q)
        (get_or-set_same columns t v no_sums (omega (arith, W.sized)) ∙ e)
    at k l (no d) = get_or-set_other columns t k v no_sums d ∙ W.written k (omega (arith, d))

-- of n slots none is from n on
nothing_below : (n : ℕ) → low n + 1 - 2 ^ n ≡ 0
unfolding low
nothing_below n = omega (arith, pow_pos n)

pub all-low : (n : ℕ) → n ≤ 20 → {slots : ℕ} → slots ≡ low n → slots < 2 ^ 20
all-low n few e = rw e (lt_of_lt_of_le (low-lt n) (pow_mono few))

module _ {opens : List ℕ} {columns : List Sums} {t : ℕ} {sums : Sums} (few : length opens ≤ 20) (W : Tabled opens columns t)
    (h : length opens ≤ t) (e : sums ≡ sums_of opens (low (length opens))) where
  abbrev pub underway : Underway columns (length opens) sums
  underway = record {
    opens = opens;
    set = low (length opens);
    few = few;
    small = all-low (length opens) few refl;
    lows = bit-low (length opens);
    table = λ k l. W.written k (omega arith);
    are = e;
  }

  pub counted : (r : ℕ) → r < 2 ^ 64 → SignedSum columns (length opens) sums r → r ≡ count (length opens) opens
  unfolding terms added_terms taken_terms
  counted r l S =
      let n = length opens in
      let none : low n + 1 - 2 ^ n ≡ 0 = nothing_below n in
      let all : (side : ℕ) → terms side n opens (low n) ≡ over_sets side n (set_product opens) =
      λ side. over-sets_cong side n _ _ (λ s g. let same : low n + 1 - 2 ^ n + s ≡ s = omega arith in ap (set_product opens) same) in
      ryser_modulo opens few r l (ap (λ a. (r + a) % 2 ^ 64) (sym (all 1)) ∙ S underway ∙ ap (◌% 2 ^ 64) (all 0))
