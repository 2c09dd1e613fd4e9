-- The loops of `lift` and `raise`, and what they make of the levels, bit by bit. Assumes nothing.
use mathlib.Core.Path.{◌≡◌, refl, sym, ap, ap₂, ◌∙◌}
use mathlib.Core.List.{List, ◌∷◌}
use Prim.Native.Nat.{ℕ, zero, suc, ◌+◌, ◌^◌, ◌≤◌, ◌<◌, min}
use native.Mathlib.Numerals.{add-one}
use native.Mathlib.Omega.{arith}
use lib.Bits.{bit_and}
use lib.ListN.{length, get_or, set}
use Rattle.words.specs.Word.{bit, select}
use Rattle.words.proofs.Bits.{bit_empty, bit-and, bit-select}
use Rattle.words.proofs.Sweep.{Sweep, sweep_start, sweep_turn}
use Rattle.min_cost.specs.Dual.{delta, Levels, Lifted, tight_word, Raisable, Raised}

-- ---- lift: `under` is the level below x

-- none below 0
abbrev lower : List ℕ → ℕ → ℕ
lower l x = get_or (0 ∷ l) x 0

pub record Lifting (l : List ℕ) (d : ℕ) (m : List ℕ) (under x : ℕ) : Type 0 where
  pub sweep : Sweep 66 (λ y. get_or l y 0) (λ y. select (get_or l y 0) d (lower l y)) m x
  pub under_is : under ≡ lower l x

pub lifting_start : {l : List ℕ} {d : ℕ} → length l ≡ 66 → Lifting l d l 0 0
lifting_start {l} e = record { sweep = sweep_start 66 l e; under_is = refl }

pub lifting_turn : {l : List ℕ} {d : ℕ} {m : List ℕ} {under x new : ℕ} → Lifting l d m under x → x < 66 → new ≡ select (get_or m x 0) d under
    → Lifting l d (set m x new) (get_or m x 0) (x + 1)
lifting_turn {l} {d} {m} {under} {x} L h e =
    let old = L.sweep.rest x (omega arith) in record {
      sweep = sweep_turn L.sweep h (e ∙ ap₂ (λ a b. select a d b) old L.under_is);
      under_is = old ∙ ap (lower l) (sym (add-one x));
    }

pub lifting_end : {l : List ℕ} {d : ℕ} {m : List ℕ} {under x : ℕ} → d < 2 ^ 64 → Lifting l d m under x → 66 ≤ x → Lifted l d m
lifting_end {l} {d} hd L hx v N = record {
  sized = L.sweep.sized;
  word = λ x k h g.
      ap (λ z. bit z k) (L.sweep.done x (omega arith))
      ∙ bit-select (get_or l x 0) d (lower l x) k (λ s. delta (v k + s) x) hd g (omega (arith, N.word x k h g)) (lowered x k h g);
}
  where
    lowered : (x k : ℕ) → x < 66 → k < 64 → bit (lower l x) k ≡ delta (v k + 1) x
    lowered zero k h g = omega (arith, bit_empty k)
    lowered (suc x) k h g = omega (arith, N.word x k (omega arith) g)

-- ---- raise

pub record Raising (w c l u : List ℕ) (up : ℕ) (t₀ u' t' : List ℕ) (i : ℕ) : Type 0 where
  pub asked : Raisable w c l u t₀ up
  pub item_duals : Sweep 64 (λ x. get_or u x 0) (λ x. get_or u x 0 + bit up x) u' i
  pub words : Sweep (length w) (λ x. get_or t₀ x 0) (λ x. tight_word l (get_or w x 0) (get_or c x 0) (get_or u x 0 + bit up x)) t' i

pub raising_start : {w c l u : List ℕ} {up : ℕ} {t : List ℕ} → Raisable w c l u t up → Raising w c l u up t u t 0
raising_start {w} {u} {t} R = record { asked = R; item_duals = sweep_start 64 u R.item_duals; words = sweep_start (length w) t R.words }

module _ {w c l u : List ℕ} {up : ℕ} {t u' t' : List ℕ} {i : ℕ} (S : Raising w c l u up t u' t' i) where
  -- the item's new dual
  dual_is : (b : ℕ) → b ≡ bit up i → get_or u' i 0 + b ≡ get_or u i 0 + bit up i
  dual_is b e = ap₂ ◌+◌ (S.item_duals.rest i (omega arith)) e

  pub dual_room : i < length w → {b : ℕ} → b ≡ bit up i → get_or u' i 0 + b ≤ 64
  dual_room h {b} e = omega (arith, dual_is b e, S.asked.room i h)

  pub raising_turn : i < length w → {b s : ℕ} → b ≡ bit up i → s ≡ select (get_or l (get_or u' i 0 + b + 1) 0) (get_or c i 0) (get_or l (get_or u' i 0 + b) 0)
      → Raising w c l u up t (set u' i (get_or u' i 0 + b)) (set t' i (bit_and (get_or w i 0) s)) (i + 1)
  unfolding tight_word
  raising_turn h {b} eb es = record {
    asked = S.asked;
    item_duals = sweep_turn S.item_duals (omega (arith, S.asked.few)) (dual_is b eb);
    words = sweep_turn S.words h (ap (bit_and (get_or w i 0)) es ∙ ap (tight_word l (get_or w i 0) (get_or c i 0)) (dual_is b eb));
  }

  pub raising_end : length w ≤ i → ((x : ℕ) → x < length w → get_or c x 0 < 2 ^ 64) → Raised w c l u up u' t'
  raising_end h range =
      let dual : (x : ℕ) → x < length w → get_or u' x 0 ≡ get_or u x 0 + bit up x = λ x g. S.item_duals.done x (omega arith) in
      record { range = range; item_duals = S.item_duals.sized; words = S.words.sized; item_dual = dual; word = λ x g. S.words.done x (omega arith) }

-- a cell is tight if it is open and u + 1 is its cost and its slot's number
pub tight_bit : {l : List ℕ} {v : ℕ → ℕ} → Levels l v → (cells calls u k : ℕ) → calls < 2 ^ 64 → k < 64 → u ≤ 64
    → bit (tight_word l cells calls u) k ≡ min (bit cells k) (delta (bit calls k + v k) (u + 1))
unfolding tight_word
tight_bit {l} {v} N cells calls u k hc g hu =
    bit-and cells (select (get_or l (u + 1) 0) calls (get_or l u 0)) k
    ∙ ap (min (bit cells k))
    (bit-select (get_or l (u + 1) 0) calls (get_or l u 0) k (λ s. delta (s + v k) (u + 1)) hc g
    (omega (arith, N.word (u + 1) k (omega arith) g)) (omega (arith, N.word u k (omega arith) g)))
