-- The loop of `subset_count`: the slots that are still to be added, and what a turn adds. Assumes nothing.
use mathlib.Core.Path.{◌≡◌, ap, ◌∙◌}
use mathlib.Core.Logic.{◌≢◌}
use mathlib.Core.List.{List}
use Prim.Native.Nat.{ℕ, ◌+◌, ◌-◌, ◌*◌, ◌^◌, ◌≤◌, ◌<◌}
use native.Mathlib.Nat.{zero-add, le_trans}
use native.Mathlib.Omega.{arith}
use lib.Bits.{bit_and, and_le_l}
use lib.ListN.{get_or}
use Rattle.words.specs.Word.{bit, without, lowest}
use Rattle.words.specs.Sum.{sum}
use Rattle.words.proofs.Bits.{bit-lt, bit-and, without-le, without-add, without-less}
use Rattle.words.proofs.SetLaws.{sum_empty, sum-and, sum-without, bit-without-le, lowest-lt, bit-lowest}
use Rattle.permanent.specs.Served.{served}

-- the slots of `left`, a part of `set`, are still to be added to `ways`
pub record Partial (opened : ℕ) (counts : List ℕ) (set left ways : ℕ) : Type 0 where
  pub inside : (j : ℕ) → bit left j ≤ bit set j
  pub small : left < 2 ^ 64
  pub whole : ways + sum (λ j. bit left j * get_or counts (without set j) 0) 64 ≡ served opened counts set

-- a turn takes a slot, leaves `rest`, and adds the word at `at`
pub record Summing (opened : ℕ) (counts : List ℕ) (set rest ways at : ℕ) : Type 0 where
  pub below : at < set
  pub fits : ways + get_or counts at 0 ≤ served opened counts set
  pub next : Partial opened counts set rest (ways + get_or counts at 0)

pub summing_start : (opened : ℕ) (counts : List ℕ) (set : ℕ) → set < 2 ^ 64 → Partial opened counts set (bit_and set opened) 0
unfolding served
summing_start opened counts set h = record {
  inside = λ j. omega (arith, bit-and set opened j);
  small = omega (arith, and_le_l set opened);
  whole = zero-add _ ∙ sum-and (λ j. get_or counts (without set j) 0) 64 set opened;
}

module _ {opened : ℕ} {counts : List ℕ} {set left rest ways slot : ℕ} (part : Partial opened counts set left ways)
    (step : (left ≢ 0) × (slot ≡ lowest left) × (rest ≡ without left (lowest left))) where
  pub slot_lt : slot < 64
  slot_lt = rw step.1 (lowest-lt left step.0 part.small)

  -- the slot is in the set
  pub slot_in : 2 ^ slot + without set slot ≡ set
  slot_in =
      let j = lowest left in
      let own : bit left j ≡ 1 = bit-lowest left step.0 part.small in
      rw step.1 (without-add set j (omega (arith, own, part.inside j, bit-lt set j)))

  pub summing_turn : {at : ℕ} → at ≡ without set slot → Summing opened counts set rest ways at
  summing_turn {at} e =
      let j = lowest left in
      let own : bit left j ≡ 1 = bit-lowest left step.0 part.small in
      let under : without set j < set = without-less set j (omega (arith, part.inside j, bit-lt set j)) in
      let apart = sum-without (λ i. get_or counts (without set i) 0) 64 left j (lowest-lt left step.0 part.small) own in
      let place : at ≡ without set j = e ∙ ap (without set) step.1 in
      let read : get_or counts at 0 ≡ get_or counts (without set j) 0 = ap (λ i. get_or counts i 0) place in
      rw step.2 (record {
        below = omega arith;
        fits = omega (arith, part.whole);
        next = record {
          inside = λ i. le_trans (bit-without-le left j i) (part.inside i);
          small = omega (arith, without-le left j, part.small);
          whole = omega (arith, part.whole);
        };
      })

  -- the place of a turn, as the code finds it
  pub turn : {one : ℕ} → one ≡ 2 ^ slot → Summing opened counts set rest ways (set - one)
  turn e = summing_turn (omega (arith, e, slot_in))

pub summing_end : {opened : ℕ} {counts : List ℕ} {set left ways : ℕ} → Partial opened counts set left ways → left ≡ 0
    → ways ≡ served opened counts set
summing_end {counts = counts} {set = set} part e =
    let none = ap (λ l. sum (λ j. bit l j * get_or counts (without set j) 0) 64) e in
    omega (arith, part.whole, none, sum_empty (λ j. get_or counts (without set j) 0) 64)
