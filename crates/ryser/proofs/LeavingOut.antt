-- `signed_sum` settles the slots below j: a turn leaves out slot k, and what the sets without it give is taken off. Assumes nothing.
use Rattle.std.proofs.Common.{◌≡◌, ℕ, suc, ◌+◌, ◌*◌, ◌%◌, ◌^◌, ◌<◌, ◌≤◌, Bool, true, false, not, ◌&&◌, ◌||◌, ◌⊎◌, inl, inr, T, List, [], ◌∷◌, map, get_or, sym, refl, ap, ◌∙◌, subst, add-one, arith, ne_eqb}
use native.Mathlib.Decide.{ℕ_discrete, dec_lt}
use Rattle.words.specs.Word.{without}
use Rattle.words.specs.Sum.{up_from}
use Rattle.words.proofs.Bits.{bit_high, without-le}
use Rattle.model.specs.Lists.{any}
use Rattle.model.specs.Ryser.{set_product}
use Rattle.ryser.specs.Bytes.{bytes, multiplied, some_zero}
use Rattle.ryser.specs.declared.Sums.{Sums}
use Rattle.ryser.specs.RowSums.{row_sum, row_sums, sums_of, less, no_sums, full, WithinSums, SmallSums, terms, IsSum, Underway, SignedSum}
use Rattle.ryser.proofs.RowSums.{sums_bytes, sums_small, sums_rest, column_within, sums_product}
use Rattle.ryser.proofs.Terms.{lows-fewer, lows-without, terms-none, terms_step, terms-zero, signed_turn}

-- ---- the words

module _ {columns : List Sums} {j : ℕ} {s : Sums} (u : Underway columns j s) where
  pub few-slots : j ≤ 20
  few-slots = elim (dec_lt 20 j) [ yes l ↦ absurd (omega (arith, u.lows 20 l, bit_high 20 u.set 20 u.small (omega arith))) | no l ↦ omega arith ]

  pub words : SmallSums s
  words = rw u.are (sums_small u.opens u.set u.small 0, sums_small u.opens u.set u.small 1, sums_small u.opens u.set u.small 2)

  pub product_is : multiplied (bytes 8 s.first) * multiplied (bytes 8 s.second) * multiplied (bytes 4 s.third) ≡ set_product u.opens u.set
  product_is = rw u.are (sums_product u.opens u.set u.few u.small)

  -- ---- a slot left out

  module _ (k : ℕ) (l : k < j) where
    -- the sums of the set without slot k
    pub rest_is : less s (get_or columns k no_sums) ≡ sums_of u.opens (without u.set k)
    rest_is = rw (u.are, u.table k l) (sums_rest u.opens u.set k (u.lows k l))

    pub within : WithinSums (get_or columns k no_sums) s
    within = rw (u.are, u.table k l) (column_within u.opens u.set k (u.lows k l))

    abbrev pub left_out : Underway columns k (less s (get_or columns k no_sums))
    left_out = record {
      opens = u.opens;
      set = without u.set k;
      few = u.few;
      small = omega (arith, u.small, without-le u.set k);
      lows = lows-without k u.set (lows-fewer j k u.set u.lows (omega arith));
      table = λ t h. u.table t (omega arith);
      are = rest_is;
    }

-- ---- a row without a slot

zero_byte : (f : ℕ → ℕ) (l : List ℕ) → some_zero (map f l) ≡ true → (i : ℕ) × (f i ≡ 0)
unfolding any
zero_byte f [] e = absurd (subst T (sym e) tt)
zero_byte f (i ∷ l) e = elim (ℕ_discrete (f i) 0) [ yes z ↦ (i, z) | no d ↦ zero_byte f l (sym (ap (◌|| some_zero (map f l)) (ne_eqb (f i) 0 d)) ∙ e) ]

module _ {columns : List Sums} {j : ℕ} {s : Sums} (u : Underway columns j s) where
  none_left : (k : ℕ) → some_zero (bytes 8 (row_sums u.opens u.set k)) ≡ true → (i : ℕ) × (row_sum u.opens u.set i ≡ 0)
  none_left k q = zero_byte (row_sum u.opens u.set) (up_from (8 * k) 8) (sym (ap some_zero (sums_bytes u.opens u.set u.small k)) ∙ q)

  no_terms : (k : ℕ) → some_zero (bytes 8 (row_sums u.opens u.set k)) ≡ true → IsSum j u.opens u.set 0
  no_terms k q =
      let i = none_left k q in
      let none : (side other : ℕ) → side + other ≡ 1 → terms side j u.opens u.set ≡ 0 =
      λ side other s. terms-zero u.opens i.0 j side other s u.set u.lows i.1 in
      omega (arith, none 0 1 refl, none 1 0 refl)

-- one of three is
some_of : (p q r : Bool) → (not p && not q) && not r ≡ false → (p ≡ true) ⊎ (q ≡ true) ⊎ (r ≡ true)
some_of true q r e = inl refl
some_of false true r e = inr (inl refl)
some_of false false true e = inr (inr refl)
some_of false false false e = absurd (subst T e tt)

-- a byte is 0: every term is
pub nothing_left : (columns : List Sums) (j : ℕ) (s : Sums) → full s ≡ false → SignedSum columns j s 0
nothing_left columns j s e u =
    let at : (f : Sums → ℕ) → some_zero (bytes 8 (f s)) ≡ true → some_zero (bytes 8 (f (sums_of u.opens u.set))) ≡ true =
    λ f q. ap (λ t. some_zero (bytes 8 (f t))) (sym u.are) ∙ q in
    elim (some_of (some_zero (bytes 8 s.first)) (some_zero (bytes 8 s.second)) (some_zero (bytes 8 s.third)) e) [
      | inl q ↦ no_terms u 0 (at (λ t. t.first) q)
      | inr (inl q) ↦ no_terms u 1 (at (λ t. t.second) q)
      | inr (inr q) ↦ no_terms u 2 (at (λ t. t.third) q)
    ]

-- ---- the loop

-- after k turns `sum` is the signed sum over the set and those that lack slots below k besides
pub record Partly (columns : List Sums) (j : ℕ) (s : Sums) (k sum : ℕ) : Type 0 where
  pub below : k ≤ j
  pub sums : (u : Underway columns j s) → IsSum k u.opens u.set sum

pub partly_start : (columns : List Sums) (j : ℕ) (s : Sums) {sum : ℕ}
    → sum ≡ multiplied (bytes 8 s.first) * multiplied (bytes 8 s.second) * multiplied (bytes 4 s.third) % 2 ^ 64 → Partly columns j s 0 sum
partly_start columns j s e = record {
  below = omega arith;
  sums = λ u.
      let term : _ = e ∙ ap (◌% 2 ^ 64) (product_is u) in
      omega (arith, term, terms-none 1 0 refl u.opens u.set, terms-none 0 1 refl u.opens u.set);
}

-- what the sets without slot k give is taken off
pub partly_turn : {columns : List Sums} {j : ℕ} {s : Sums} {k sum : ℕ} → Partly columns j s k sum → k < j → (t r : ℕ)
    → SignedSum columns k (less s (get_or columns k no_sums)) r → (t + r) % 2 ^ 64 ≡ sum % 2 ^ 64 → Partly columns j s (k + 1) t
partly_turn {j = j} {k = k} {sum} P l t r S e = record {
  below = omega arith;
  sums = λ u.
      let lows = lows-fewer j (suc k) u.set u.lows l in
      let added = terms_step 0 1 refl u.opens k u.set lows in
      let taken = terms_step 1 0 refl u.opens k u.set lows in
      rw (add-one k, added, taken) (signed_turn sum r t _ _ _ _ (P.sums u) (S (left_out u k l)) e);
}
